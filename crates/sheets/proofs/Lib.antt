pub mod AcceptedSheet
pub mod TagSearch
