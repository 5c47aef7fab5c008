pub mod Laying
pub mod Again
