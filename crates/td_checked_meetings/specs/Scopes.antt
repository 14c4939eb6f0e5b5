-- What a meeting exchanges where the statements of some sites differ: of each other site those that its version vector
-- counts, and nothing beyond a gap in a site's numbers (the tentative writes of Terry et al. 1995, Bayou).
use Rattle.std.specs.Prelude.{ℕ, ◌+◌, max, Bool, not, ◌&&◌, ◌==◌, nat_le, List, [], ◌∷◌, ◌++◌, Option, Some, None, if◌then◌else◌}
use Rattle.std.specs.List.{filter, list_any}
use Rattle.td_stamps.specs.Checks.{last_seq}
use Rattle.td_stamps.specs.Vectors.{VersionVector, after_vector, lacks, number_of}
use Rattle.td_stamps.specs.declared.entry.Entry.{Entry}
use Rattle.td_checked_meetings.specs.declared.sifting.Beyond.{Beyond}

abbrev pub is_left_out : List ℕ → Entry → Bool
is_left_out sites e = list_any (λ n. n == e.site) sites

-- ---- what is sent

-- counted by the vector, and of no site that is left out
abbrev pub is_in_scope : List ℕ → VersionVector → Entry → Bool
is_in_scope left_out own e = not (lacks own e) && not (is_left_out left_out e)

-- what a site of one vector sends to one of another: what is after the other's
abbrev pub sent : List ℕ → VersionVector → VersionVector → List Entry → List Entry
sent left_out own other xs = filter (is_in_scope left_out own) (after_vector other xs)

-- ---- what is taken

-- no number of the entry's site is missing before it: it is at most the next one after what the vector counts and what
-- came earlier
abbrev pub follows : VersionVector → List Entry → Entry → Bool
follows v earlier e = nat_le e.seq (max (number_of v e.site) (last_seq e.site earlier) + 1)

-- the entries that follow, each on what the vector counts and on those before it
unfoldable pub in_sequence : VersionVector → List Entry → List Entry → List Entry
in_sequence v earlier [] = []
in_sequence v earlier (e ∷ es) = if follows v earlier e then e ∷ in_sequence v (earlier ++ e ∷ []) es else in_sequence v earlier es

-- the first entry that does not follow
unfoldable pub first_beyond : VersionVector → List Entry → List Entry → Option Beyond
first_beyond v earlier [] = None
first_beyond v earlier (e ∷ es) = if follows v earlier e then first_beyond v (earlier ++ e ∷ []) es else Some (record { site = e.site; number = e.seq })

-- those of a batch that are of no site that is left out
abbrev pub of_others : List ℕ → List Entry → List Entry
of_others left_out es = filter (λ e. not (is_left_out left_out e)) es

-- what a site of this vector takes of a batch
abbrev pub taken : List ℕ → VersionVector → List Entry → List Entry
taken left_out v es = in_sequence v [] (of_others left_out es)
