mod Fronts
mod Lasts
