pub mod Reports
pub mod Further
pub mod Lists
