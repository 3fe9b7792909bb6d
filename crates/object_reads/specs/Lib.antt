pub mod SizedReads
