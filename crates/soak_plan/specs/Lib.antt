pub mod SoakPlans
