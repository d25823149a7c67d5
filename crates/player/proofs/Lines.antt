-- The line of an outcome, word after word. Assumes nothing.
use Prim.Native.Nat.{ℕ}
use mathlib.Core.Path.{◌≡◌}
use mathlib.Core.Bool.{Bool}
use mathlib.Core.List.{List, ◌++◌, append_assoc}
use lib.ListN.{length}
use Rattle.protocol.specs.declared.outcome.Event.{Event}
use Rattle.segment.specs.declared.options.Remarks.{Remarks}
use Rattle.text.specs.Number.{decimal}
use Rattle.text.specs.ByteString.{hex_word}
use Rattle.text.specs.Put.{field, fields, end_words}
use Rattle.player.specs.Line.{event_fields, line_of}

pub line_joined : (event : Event) (pending : ℕ) (written part : List ℕ) (kept : Bool) (remarks : Remarks) → line_of event pending written part kept remarks
    ≡ event_fields event ++ field (decimal (length written)) ++ field (decimal pending) ++ field (hex_word written) ++ field (hex_word part) ++ fields (end_words kept remarks.skipped remarks.used remarks.broken)
unfolding line_of event_fields fields
line_joined event pending written part kept remarks = simp append_assoc
