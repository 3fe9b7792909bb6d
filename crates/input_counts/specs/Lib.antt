pub mod FormReads
