pub mod Reported
pub mod Clear
pub mod RowTrips
pub mod ColumnTrips
pub mod HeadingTrips
pub mod RoundTrips
pub mod Owned
