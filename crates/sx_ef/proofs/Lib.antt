pub mod Numbers
pub mod Widths
pub mod Encoding
pub mod Scan
pub mod Views
pub mod Sections
pub mod RoundTrip
pub mod Validity
