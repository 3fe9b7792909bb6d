mod Finished
mod MomentLaws
mod Placing
mod Starting
