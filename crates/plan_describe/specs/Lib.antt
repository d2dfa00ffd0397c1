pub mod Numbers
pub mod Series
pub mod TimeSaid
pub mod DaysSaid
pub mod Said
pub mod Laws
