pub mod Accounts
pub mod FinishedPieces
pub mod Numbers
pub mod Round
pub mod Seats
pub mod Shared
