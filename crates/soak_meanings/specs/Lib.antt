pub mod SoakMeanings
