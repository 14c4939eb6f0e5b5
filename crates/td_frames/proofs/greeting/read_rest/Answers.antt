use Rattle.std.proofs.Common.{ℕ, List, ◌++◌, Result, Ok, Err, ap}
use Rattle.std.proofs.KnownBytes.{Consumes-trans}
use Rattle.td_stamps.specs.Vectors.{VersionVector}
use Rattle.td_frames.specs.declared.greeting.Greeting.{Greeting}
use Rattle.td_frames.specs.Reading.{Miss, script_at, vector_at, then_at}
use Rattle.td_frames.proofs.InTurn.{reads_then, told_then}
use Rattle.td_frames.proofs.greeting.read_rest.Goals as goal

-- the greeting, once its version vector is read
abbrev greeting_with : ℕ → List ℕ → VersionVector → List ℕ → Result (Greeting × List ℕ) Miss
greeting_with site script v rest = Ok (record { site = site; script = script; vector = v }, rest)

abbrev vector_then : ℕ → List ℕ → List ℕ → Result (Greeting × List ℕ) Miss
vector_then site script b = then_at (vector_at b) (greeting_with site script)

pub returns-in-Err-clause-told : goal.returns-in-Err-clause-told
returns-in-Err-clause-told g c =
    let (bytes, taken, told) = c.in-Err.ensures.told in
    (bytes, taken, told_then c.in-Err.e (script_at bytes) (vector_then c.args.site) _ _ _ told)

pub returns-in-Ok-read_vector-clause-told : goal.returns-in-Ok-read_vector-clause-told
returns-in-Ok-read_vector-clause-told g c =
    let (first, taken, told) = c.in-Ok.ensures.told in
    let (second, more, rest) = c.in-Ok-read_vector.ensures.told in
    let script = c.in-Ok.script in
    let greeting : Greeting = record { site = c.args.site; script = script; vector = c.in-Ok-read_vector.vector } in (
      first ++ second,
      Consumes-trans _ _ _ _ _ taken more,
      reads_then script_at (vector_then c.args.site) script first second (Ok greeting) (g.S.Source.left c.read_vector.new.source) _ _ _ told.0 told.1
          ((λ m. ap (λ r. then_at r (greeting_with c.args.site script)) (rest.0 m)), rest.1),
    )

pub returns-in-Err-read_vector-clause-told : goal.returns-in-Err-read_vector-clause-told
returns-in-Err-read_vector-clause-told g c =
    let (first, taken, told) = c.in-Ok.ensures.told in
    let (second, more, rest) = c.in-Err-read_vector.ensures.told in
    let script = c.in-Ok.script in (
      first ++ second,
      Consumes-trans _ _ _ _ _ taken more,
      reads_then script_at (vector_then c.args.site) script first second (Err c.in-Err-read_vector.e) _ _ _ _ told.0 told.1
          (told_then c.in-Err-read_vector.e (vector_at second) (greeting_with c.args.site script) _ _ _ rest),
    )
