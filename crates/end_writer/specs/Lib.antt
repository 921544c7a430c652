pub mod Flights
pub mod Kind
pub mod Written
