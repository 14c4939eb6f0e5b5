-- What a walk along links has visited: words for private code.
use Rattle.std.specs.Prelude.{◌≡◌, ℕ, ◌+◌, ◌<◌, Bool, true, false, List, ◌++◌, length, slice_index_or, if◌then◌else◌}
use Rattle.std.specs.List.{Contains, sum_by}

abbrev pub one_if_not : Bool → ℕ
one_if_not b = if b then 0 else 1

-- a marked place was visited, and the places and what is not marked are as many as the marks
pub record IsMarked (marks : List Bool) (places : List ℕ) : Type 0 where
  pub visited : (w : ℕ) → slice_index_or marks w false ≡ true → Contains places w
  pub counted : length places + sum_by one_if_not marks ≡ length marks

-- the new places are the old ones and some of these behind them, and all of these that are below n are there
pub record Visits (n : ℕ) (old more new : List ℕ) : Type 0 where
  pub rest : List ℕ
  pub behind : new ≡ old ++ rest
  pub only : (w : ℕ) → Contains rest w → Contains more w × (w < n)
  pub all : (w : ℕ) → Contains more w → w < n → Contains new w
