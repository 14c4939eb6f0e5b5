-- The messages by which two sites compare what they hold before they meet. Numbers are big-endian.
use Rattle.std.specs.Prelude.{◌≡◌, ℕ, zero, suc, ◌+◌, ◌*◌, Bool, ◌&&◌, ◌==◌, nat_le, not, slice_index, List, [], ◌∷◌, ◌++◌, length, take, drop, codes}
use Rattle.std.specs.Int.{w16, w32, from_be_bytes, to_be_bytes}
use Rattle.std.specs.List.{flat_map, list_all}
use Rattle.std.specs.Str.{bytes_eq}
use Rattle.td_comparison.specs.Digests.{rises, digest_sites}
use Rattle.td_comparison.specs.declared.digest.SiteDigest.{SiteDigest}
use Rattle.td_comparison.specs.declared.message.Comparison.{Comparison}

-- ---- written

-- a site, its number, the digest
abbrev pub line_frame : SiteDigest → List ℕ
line_frame d = to_be_bytes w16 d.site ++ to_be_bytes w32 d.number ++ d.digest

-- the letters JTDC and the version, which is 1
abbrev pub comparison_letters : List ℕ
comparison_letters = codes "JTDC" ++ 1 ∷ []

-- how many digests, and these
abbrev pub digests_frame : List SiteDigest → List ℕ
digests_frame ds = to_be_bytes w32 (length ds) ++ flat_map line_frame ds

-- what a site asks another one with, and what is answered: the site, the SHA-256 of its script, and digests
abbrev pub comparison_frame : ℕ → List ℕ → List SiteDigest → List ℕ
comparison_frame site script ds = (comparison_letters ++ to_be_bytes w16 site) ++ (script ++ digests_frame ds)

-- how many sites differ, and which
abbrev pub differences_frame : List ℕ → List ℕ
differences_frame sites = to_be_bytes w32 (length sites) ++ flat_map (to_be_bytes w16) sites

-- ---- read

-- the fields at an offset
abbrev pub short_at : ℕ → List ℕ → ℕ
short_at n bytes = from_be_bytes w16 (take 2 (drop n bytes))

abbrev pub long_at : ℕ → List ℕ → ℕ
long_at n bytes = from_be_bytes w32 (take 4 (drop n bytes))

-- a line of 22 bytes
abbrev pub line_in : List ℕ → SiteDigest
line_in bytes = record { site = short_at 0 bytes; number = long_at 2 bytes; digest = take 16 (drop 6 bytes) }

-- so many lines, of 22 bytes each
unfoldable pub lines_in : ℕ → List ℕ → List SiteDigest
lines_in zero bytes = []
lines_in (suc n) bytes = line_in bytes ∷ lines_in n (drop 22 bytes)

-- so many sites, of two bytes each
unfoldable pub sites_in : ℕ → List ℕ → List ℕ
sites_in zero bytes = []
sites_in (suc n) bytes = short_at 0 bytes ∷ sites_in n (drop 2 bytes)

-- digests of rising sites from 1 on, with numbers up to 1,000,000,000
abbrev pub are_digests : List SiteDigest → Bool
are_digests ds = rises 0 (digest_sites ds) && list_all (λ d. nat_le d.number 1000000000) ds

-- the letters, a site from 1 on, at most 65,535 digests, and as many bytes as these have
abbrev pub has_head : List ℕ → Bool
has_head bytes =
    nat_le 43 (length bytes) && (bytes_eq (take 5 bytes) comparison_letters && (nat_le 1 (short_at 5 bytes)
    && (nat_le (long_at 39 bytes) 65535 && (length bytes == 43 + 22 * long_at 39 bytes))))

-- the parts of a comparison
abbrev pub site_in : List ℕ → ℕ
site_in bytes = short_at 5 bytes

abbrev pub script_in : List ℕ → List ℕ
script_in bytes = take 32 (drop 7 bytes)

abbrev pub digests_in : List ℕ → List SiteDigest
digests_in bytes = lines_in (long_at 39 bytes) (drop 43 bytes)

-- the bytes are a comparison
abbrev pub is_comparison : List ℕ → Bool
is_comparison bytes = has_head bytes && are_digests (digests_in bytes)

-- a comparison has these parts
pub record IsComparisonIn (bytes : List ℕ) (c : Comparison) : Type 0 where
  pub site : c.site ≡ site_in bytes
  pub script : c.script ≡ script_in bytes
  pub digests : c.digests.items ≡ digests_in bytes

-- at most 65,535 sites, and as many bytes as these have
abbrev pub has_count : List ℕ → Bool
has_count bytes = nat_le 4 (length bytes) && (nat_le (long_at 0 bytes) 65535 && (length bytes == 4 + 2 * long_at 0 bytes))

-- the bytes are a list of sites that differ, which rise
abbrev pub are_differences : List ℕ → Bool
are_differences bytes = has_count bytes && rises 0 (sites_in (long_at 0 bytes) (drop 4 bytes))

abbrev pub differences_in : List ℕ → List ℕ
differences_in bytes = sites_in (long_at 0 bytes) (drop 4 bytes)

-- the letters of a comparison and another version
abbrev pub is_other_version : List ℕ → Bool
is_other_version bytes = nat_le 5 (length bytes) && (bytes_eq (take 4 bytes) (codes "JTDC") && not (slice_index bytes 4 == 1))
