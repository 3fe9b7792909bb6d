mod PlaceLaws
mod ListLaws
mod TableLaws
mod CopyLaws
