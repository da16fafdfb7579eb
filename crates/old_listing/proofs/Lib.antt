pub mod Forms
pub mod Takes
