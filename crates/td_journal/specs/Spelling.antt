-- The journal of a site: a header that names the site and its script, and then the frame of each entry, in the order in
-- which they were accepted. Numbers are big-endian. The first version, which is read and never written, differs by its
-- byte and by its frames.
use Rattle.std.specs.Prelude.{ℕ, List, ◌∷◌, ◌++◌, codes}
use Rattle.std.specs.Int.{w16, to_be_bytes}
use Rattle.td_stamps.specs.declared.entry.Entry.{Entry}
use Rattle.td_frames.specs.Spelling.{entry_frames, script_frame}
use Rattle.td_frames.specs.declared.version.Version.{Version}
use Rattle.td_frames.specs.declared.version.Version.TheVariants.{First, Second}

-- the byte of a version
abbrev pub version_byte : Version → ℕ
version_byte First = 1
version_byte Second = 2

-- the letters JTDB, the version, the site, the length of the script, and the script
abbrev pub header : Version → ℕ → List ℕ → List ℕ
header v site script = codes "JTDB" ++ version_byte v ∷ (to_be_bytes w16 site ++ script_frame script)

abbrev pub journal : Version → ℕ → List ℕ → List Entry → List ℕ
journal v site script es = header v site script ++ entry_frames v es
