pub mod SoakDesigns
