-- How alarms are raised: at the end of those that are kept, each once, at most 64.
use Rattle.std.specs.Prelude.{◌≡◌, ◌⊎◌, ◌<◌, ◌≤◌, ◌++◌, ◌∷◌, [], ℕ, List, length}
use Rattle.std.specs.List.{Contains}
use Rattle.std.specs.declared.net.ip_addr.IpAddr.{IpAddr}
use Rattle.td_alarms.specs.declared.alarms.Alarm.{Alarm}

-- the alarm is there already, or no more are kept
abbrev pub AddsNothing : Alarm → List Alarm → Type 0
AddsNothing a xs = Contains xs a ⊎ 64 ≤ length xs

-- the alarm is not there, and one more is kept
abbrev pub HasRoom : Alarm → List Alarm → Type 0
HasRoom a xs = (Contains xs a → ⊥) × (length xs < 64)

-- what is kept after an alarm was raised
abbrev pub Raises : Alarm → List Alarm → List Alarm → Type 0
Raises a xs ys = (AddsNothing a xs × (ys ≡ xs)) ⊎ (HasRoom a xs × (ys ≡ xs ++ a ∷ []))

-- what is kept after an alarm was raised for each of these sites, which differ at one address, in turn
pub data RaisesEach (address : IpAddr) : List ℕ → List Alarm → List Alarm → Type 0 where
  none_raised : {xs : List Alarm} → RaisesEach address [] xs xs
  next_raised : {site : ℕ} {sites : List ℕ} {xs ys zs : List Alarm} → RaisesEach address sites xs ys → Raises (record { site = site; address = address }) ys zs → RaisesEach address (sites ++ site ∷ []) xs zs
