-- What a dump replies to a string, by what its kind replies.
use Rattle.std.specs.Prelude.{ℕ, ◌==◌, if◌then◌else◌, Option, length}
use Rattle.sx_spec_strings.specs.Bits.{Bits}
use Rattle.sx_spec_kinds.specs.Reads.{reads_of}
use Rattle.sx_spec.specs.declared.Signature.{Signature}
use Rattle.sx_spec.specs.Layout.{Dump}
use Rattle.sx_spec.specs.Reply.{kept_numbers, section_at, signatures_in}
use Rattle.sx_signed.specs.Lookup.{place_of_signature}

-- the place, and of a signed dump only where the number that it keeps there is the signature's
abbrev pub place_kept : Dump → Signature → Option ℕ → Option ℕ
place_kept d sig place = if d.header.plan.signed == 0 then place else place_of_signature (kept_numbers d) d.header.plan.signed sig place

-- how many words that reads at most
abbrev pub kept_reads : Dump → ℕ
kept_reads d = if d.header.plan.signed == 0 then 0 else 2

-- how many words the reply to a string reads at most
abbrev pub string_reads : Dump → Bits → ℕ
string_reads d x = reads_of d.header.plan.kind d.header.plan.signed (length x) (length (signatures_in (section_at d 8)))
