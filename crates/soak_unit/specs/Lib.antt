pub mod SpelledUnits
