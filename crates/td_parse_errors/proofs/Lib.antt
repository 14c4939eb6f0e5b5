mod Carets
mod Trees
