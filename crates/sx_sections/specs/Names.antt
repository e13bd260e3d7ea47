-- The names of sections.
use Rattle.std.specs.Prelude.{ℕ, List, codes}
use Rattle.sx_sections.specs.declared.name.SectionName.{SectionName}
use Rattle.sx_sections.specs.declared.name.SectionName.TheVariants.{Values, Lengths, Prefixes, Offsets, Codes, Table, Escaped, Left, Skip, Turns, Extents, Firsts, Middles, Afters, Handles, Marks, Corrections, Blocks, Signatures}

-- the word that is shown for a name
abbrev pub name_text : SectionName → List ℕ
name_text Values = codes "values"
name_text Lengths = codes "lengths"
name_text Prefixes = codes "prefixes"
name_text Offsets = codes "offsets"
name_text Codes = codes "codes"
name_text Table = codes "table"
name_text Escaped = codes "escaped"
name_text Left = codes "left"
name_text Skip = codes "skip"
name_text Turns = codes "turns"
name_text Extents = codes "extents"
name_text Firsts = codes "firsts"
name_text Middles = codes "middles"
name_text Afters = codes "afters"
name_text Handles = codes "handles"
name_text Marks = codes "marks"
name_text Corrections = codes "corrections"
name_text Blocks = codes "blocks"
name_text Signatures = codes "signatures"
