pub mod JoinedUp
