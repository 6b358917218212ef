-- The same for a bundle whose tables stand in the scratch.
use Rattle.std.specs.Prelude.{ℕ, refl, List}
use Rattle.reader.specs.Program.{program_of}
use Rattle.reader.specs.Linked.{files_in}
use Rattle.reader.specs.Whole.{Tables}
use Rattle.shaping.specs.Phases.{Readied, program_now}
use Rattle.rules.specs.Sites.{front}
use Rattle.facts.specs.Shown.{WasRead, linked-all}
use Rattle.facts.specs.Classes.{Link}
use Rattle.facts.specs.Linking.{linking}

tables_read : (s : List ℕ) (n : ℕ) (t : List ℕ) → Tables s n t → WasRead s (program_of (files_in s n t))
tables_read s n t h = record { files = files_in s n t; end = h.end; read = h.files; is = refl; linked = linked-all (files_in s n t) h.passed }

pub readied-link : (s : List ℕ) (n : ℕ) (t : List ℕ) → Readied s n t → Link (program_now s n t)
readied-link s n t h = linking (tables_read s n (front t) h.prepared.tables)
