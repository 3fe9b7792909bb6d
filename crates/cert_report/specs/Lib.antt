pub mod Certificates
pub mod Audits
