pub mod UnitsJoinedUp
