-- Plans, nodes, handles and corrections of distributors that keep handles.
use Rattle.std.specs.Prelude.{◌≡◌, ℕ, ◌+◌, ◌≤◌, List, [], ◌∷◌, map, ⊤}
use Rattle.std.specs.List.{AllByRecursion}
use Rattle.sx_spec_strings.specs.Bits.{Bits, key_bits}
use Rattle.sx_spec_kinds.specs.declared.Kind.TheVariants.{Zfast}
use Rattle.sx_spec_kinds.specs.Blocks.{block_size, delimiters_of}
use Rattle.sx_spec_kinds.specs.Pairs.{codes_pairs, handles_pairs, offsets_pairs}
use Rattle.sx_spec_kinds.specs.Search.{handles_of}
use Rattle.sx_spec_kinds.specs.Trie.{Node as SpecNode, extents_of}
use Rattle.sx_spec_kinds.specs.Zfast.{HandleMap, code_of}
use Rattle.sx_spec.specs.declared.Plan.{Plan}
use Rattle.sx_spec.specs.declared.Signature.{Signature}
use Rattle.sx_spec.specs.Built.{marks_list}
use Rattle.sx_spec.specs.Command.{Text}
use Rattle.sx_spec.specs.Parts.{least_part, least_width}
use Rattle.sx_spec.specs.Reply.{handle_map}
use Rattle.sx_spec.specs.StaticFunction.{Entry, Part}
use Rattle.sx_fields.specs.Numbers.{Numbers}
use Rattle.sx_static.specs.Answer.{function_of}
use Rattle.sx_bits.specs.Pieces.{IsPiece, piece_string}
use Rattle.sx_parts.specs.Ranking.{signature_at}
use Rattle.sx_parts.specs.Sectioning.{IsPartDone, header_for}
use Rattle.sx_trie.specs.declared.nodes.Node.{Node}
use Rattle.sx_trie.specs.Tries.{IsTrieOf, delimiter_bits}
use Rattle.sx_handles.specs.declared.parts.ZfastParts.{ZfastParts}
use Rattle.sx_handles.specs.Parts.{AreZfastParts}
use Rattle.sx_zfast.specs.declared.correcting.Corrected.{Corrected}
use Rattle.sx_assemble.specs.declared.zfast.Built.{Built}
use Rattle.sx_assemble.specs.declared.zfast.CorrectionLists.{CorrectionLists}
use Rattle.sx_assemble.specs.declared.zfast.Field.{Field}
use Rattle.sx_assemble.specs.declared.zfast.Field.TheVariants.{Extent, First, Middle, After}
use Rattle.sx_assemble.specs.declared.zfast.HandlesBuf.{HandlesBuf}
use Rattle.sx_assemble.specs.declared.zfast.NodeLists.{NodeLists}
use Rattle.sx_assemble.specs.declared.zfast.ZfastFunctions.{ZfastFunctions}

-- a plan of a z-fast distributor
pub record IsZfastPlan (plan : Plan) : Type 0 where
  pub kind : plan.kind ≡ Zfast
  pub signed : plan.signed ≤ 64
  pub buckets : plan.log_bucket ≤ 12
  pub handles : plan.handle_bits ≤ 64
  pub bits : plan.sig_bits ≤ 192

-- ---- lists

-- the numbers, as wide as the greatest of them
pub record IsLeastList (numbers : List ℕ) (list : Numbers) : Type 0 where
  pub width : list.width ≡ least_width numbers
  pub items : list.items ≡ numbers

-- a number of a node
abbrev pub field_of : Field → Node → ℕ
field_of Extent n = n.extent
field_of First n = n.first
field_of Middle n = n.middle
field_of After n = n.after

-- the same of a node as the definitions have it
abbrev pub number_of : Field → SpecNode → ℕ
number_of Extent v = v.extent
number_of First v = v.first
number_of Middle v = v.middle
number_of After v = v.after

-- the numbers of the nodes
pub record AreNodeLists (nodes : List SpecNode) (lists : NodeLists) : Type 0 where
  pub extents : IsLeastList (map (λ v. v.extent) nodes) lists.extents
  pub firsts : IsLeastList (map (λ v. v.first) nodes) lists.firsts
  pub middles : IsLeastList (map (λ v. v.middle) nodes) lists.middles
  pub afters : IsLeastList (map (λ v. v.after) nodes) lists.afters

-- ---- delimiters and handles

-- the delimiters of the lines
abbrev pub delimiters_for : Plan → List Text → List Bits
delimiters_for plan lines = delimiters_of (block_size plan.log_bucket) (map key_bits lines)

-- their handles
abbrev pub handles_for : Plan → List Text → List Bits
handles_for plan lines = handles_of (extents_of (delimiters_for plan lines))

-- the delimiters, their trie, and what is built by it
pub record IsBuilt (log_bucket : ℕ) (lines : List Text) (built : Built) : Type 0 where
  pub trie : IsTrieOf lines built.trie
  pub same : built.trie.delimiters ≡ built.delimiters.items
  pub parts : AreZfastParts lines built.delimiters.items built.parts
  pub bits : delimiter_bits lines built.delimiters.items ≡ delimiters_of (block_size log_bucket) (map key_bits lines)

-- the pieces are the handles, and each key has its code
pub record ArePartsFor (plan : Plan) (lines : List Text) (parts : ZfastParts) : Type 0 where
  pub pieces : AllByRecursion (IsPiece lines) parts.handles.items
  pub handles : map (piece_string lines) parts.handles.items ≡ handles_for plan lines
  pub codes : parts.codes.items ≡ map (code_of (delimiters_for plan lines)) (map key_bits lines)

-- ---- functions

abbrev pub offsets_part : Plan → List Text → Part
offsets_part plan lines = least_part (offsets_pairs (block_size plan.log_bucket) (map key_bits lines))

abbrev pub handles_part : Plan → List Text → Part
handles_part plan lines = least_part (handles_pairs (delimiters_for plan lines))

abbrev pub codes_part : Plan → List Text → Part
codes_part plan lines = least_part (codes_pairs (map key_bits lines) (delimiters_for plan lines))

-- the function of the handles, and the bits that are kept of their signatures
pub record AreHandles (plan : Plan) (lines : List Text) (seed : ℕ) (h : HandlesBuf) : Type 0 where
  pub function : IsPartDone plan seed (handles_part plan lines) h.function
  pub narrow : h.function.width ≤ 64
  pub width : h.marks.width ≡ plan.handle_bits
  pub items : h.marks.items ≡ marks_list (header_for plan lines seed) plan.handle_bits (handles_for plan lines)

-- what is known of handles by them
abbrev pub map_for : Plan → List Text → ℕ → HandlesBuf → HandleMap
map_for plan lines seed h = handle_map (header_for plan lines seed) (function_of h.function) h.marks.items

-- the functions of the three parts
pub record AreFunctions (plan : Plan) (lines : List Text) (seed : ℕ) (f : ZfastFunctions) : Type 0 where
  pub offsets : IsPartDone plan seed (offsets_part plan lines) f.offsets
  pub thin_offsets : f.offsets.width ≤ 64
  pub handles : AreHandles plan lines seed f.handles
  pub codes : IsPartDone plan seed (codes_part plan lines) f.codes
  pub thin_codes : f.codes.width ≤ 64

-- ---- corrections

-- the signature of a key that is misled, with its block
abbrev pub entry_for : List Signature → Corrected → Entry
entry_for sigs c = (signature_at sigs c.rank, c.block)

-- the numbers rise from a number on
abbrev pub RiseFrom : ℕ → List ℕ → Type 0
RiseFrom n [] = ⊤
RiseFrom n (m ∷ ms) = (n ≤ m) × RiseFrom (m + 1) ms

-- the numbers of keys that are misled
abbrev pub ranks_of : List Corrected → List ℕ
ranks_of cs = map (λ c. c.rank) cs

-- the signatures of these entries, and the list of their blocks
pub record AreCorrections (entries : List Entry) (lists : CorrectionLists) : Type 0 where
  pub sigs : lists.sigs.items ≡ map (λ e. e.0) entries
  pub blocks : IsLeastList (map (λ e. e.1) entries) lists.blocks
