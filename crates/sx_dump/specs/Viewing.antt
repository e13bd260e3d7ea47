-- What answers for a dump, by its kind.
use Rattle.std.specs.Prelude.{◌≡◌, ◌≢◌, ℕ, ◌+◌, Bool, true, false, List, length, Option, Some, None, drop}
use Rattle.sx_ef.specs.Parts.{sums_of}
use Rattle.sx_ef.specs.declared.view.EliasFano.{EliasFano}
use Rattle.sx_fields.specs.declared.bank.WordBank.{Ghosts}
use Rattle.sx_fields.specs.declared.packed.Packed.{Packed}
use Rattle.sx_spec_kinds.specs.declared.Kind.{Kind}
use Rattle.sx_spec_kinds.specs.declared.Kind.TheVariants.{Func as FuncKind, Lcp as LcpKind, Lcp2 as Lcp2Kind, Hollow as HollowKind, HollowDist as HollowDistKind, Zfast as ZfastKind}
use Rattle.sx_hollow.specs.declared.view.HollowView.{HollowView}
use Rattle.sx_lcp.specs.declared.lcp.LcpView.{LcpView}
use Rattle.sx_lcp.specs.declared.lcp2.Lcp2View.{Lcp2View}
use Rattle.sx_ranksel.specs.Directory.{number_at}
use Rattle.sx_spec.specs.Fields.{fields, ones_of}
use Rattle.sx_spec.specs.Kinds.{delimiter_count}
use Rattle.sx_spec.specs.Layout.{header_of, section_width}
use Rattle.sx_spec.specs.Reply.{function_in, kept_numbers, numbers_of, section_at, signatures_in}
use Rattle.sx_static.specs.Viewing.{viewed}
use Rattle.sx_static.specs.declared.view.FuncView.{FuncView}
use Rattle.sx_dump.specs.Opening.{dump_in}
use Rattle.sx_distributors.specs.declared.hollow.HollowDistributor.{HollowDistributor}
use Rattle.sx_distributors.specs.declared.zfast.ZfastDistributor.{ZfastDistributor}
use Rattle.sx_zfast.specs.declared.corrected.Corrections.{Corrections}
use Rattle.sx_zfast.specs.Largest.{largest}
use Rattle.sx_zfast.specs.Views.{signatures_read}
use Rattle.sx_dump.specs.declared.view.View.{View}
use Rattle.sx_dump.specs.declared.view.View.TheVariants.{Func, Lcp, Lcp2, Hollow, HollowDist, Zfast}

-- the function that is read is that of section i of the dump in the words
pub record ReadsFunction {B : Type 0} {bank_of : Ghosts B} (words : List ℕ) (i : ℕ) (v : FuncView B bank_of) : Type 0 where
  pub function : viewed (bank_of.words_of v.bank) v.first v.width v.pairs ≡ function_in (section_at (dump_in words) i)

-- the numbers that a packed list reads
abbrev pub numbers_by : {B : Type 0} {bank_of : Ghosts B} (p : Packed B bank_of) → List ℕ
numbers_by {bank_of = bank_of} p = fields p.width p.len (drop p.first (bank_of.words_of p.bank))

-- they are those of section i of the dump in the words, and as wide
pub record ReadsNumbers {B : Type 0} {bank_of : Ghosts B} (words : List ℕ) (i : ℕ) (p : Packed B bank_of) : Type 0 where
  pub numbers : numbers_by p ≡ numbers_of (dump_in words) i
  pub width : p.width ≡ section_width (section_at (dump_in words) i)

-- the numbers that an Elias-Fano list reads
abbrev pub sums_by : {B D : Type 0} {bank_of : Ghosts B} {dir_of : Ghosts D} (e : EliasFano B D bank_of dir_of) → List ℕ
sums_by {bank_of = bank_of} e =
    sums_of e.width (ones_of e.upper.bits (number_at e.upper.first (bank_of.words_of e.upper.bank)))
    (fields e.low.width e.low.len (drop e.low.first (bank_of.words_of e.low.bank)))

-- they are those of section i of the dump in the words
pub record ReadsSums {B D : Type 0} {bank_of : Ghosts B} {dir_of : Ghosts D} (words : List ℕ) (i : ℕ) (e : EliasFano B D bank_of dir_of) : Type 0 where
  pub numbers : sums_by e ≡ numbers_of (dump_in words) i

-- they are those that the signed dump in the words keeps of its keys, each of the header's width
pub record ReadsKept {B : Type 0} {bank_of : Ghosts B} (words : List ℕ) (p : Packed B bank_of) : Type 0 where
  pub signed : (header_of words).plan.signed ≢ 0
  pub numbers : numbers_by p ≡ kept_numbers (dump_in words)
  pub width : p.width ≡ (header_of words).plan.signed

-- what is kept is there exactly where the dump in the words is signed
pub record IsKeptView {B : Type 0} {bank_of : Ghosts B} (words : List ℕ) (kept : Option (Packed B bank_of)) : Type 0 where
  pub some : (p : Packed B bank_of) → kept ≡ Some p → ReadsKept words p
  pub none : kept ≡ None → (header_of words).plan.signed ≡ 0

-- the function is that of a static function's dump in the words
pub record IsFuncView {B : Type 0} {bank_of : Ghosts B} (words : List ℕ) (v : FuncView B bank_of) : Type 0 where
  pub kind : (header_of words).plan.kind ≡ FuncKind
  pub values : ReadsFunction words 0 v

-- the distributor is that of a dump of kind lcp in the words
pub record IsLcpView {B : Type 0} {bank_of : Ghosts B} (words : List ℕ) (v : LcpView B bank_of) : Type 0 where
  pub kind : (header_of words).plan.kind ≡ LcpKind
  pub lengths : ReadsFunction words 0 v.lengths
  pub prefixes : ReadsFunction words 1 v.prefixes
  pub keys : v.keys ≡ (header_of words).keys
  pub bucket : v.log_bucket ≡ (header_of words).plan.log_bucket

-- the distributor is that of a dump of kind lcp2 in the words
pub record IsLcp2View {B : Type 0} {bank_of : Ghosts B} (words : List ℕ) (v : Lcp2View B bank_of) : Type 0 where
  pub kind : (header_of words).plan.kind ≡ Lcp2Kind
  pub offsets : ReadsFunction words 0 v.offsets
  pub codes : ReadsFunction words 1 v.codes
  pub table : ReadsNumbers words 2 v.table
  pub escaped : ReadsFunction words 3 v.escaped
  pub prefixes : ReadsFunction words 4 v.prefixes
  pub keys : v.keys ≡ (header_of words).keys
  pub bucket : v.log_bucket ≡ (header_of words).plan.log_bucket

-- the hollow trie is that of a dump of kind hollow in the words
pub record IsHollowView {B D : Type 0} {bank_of : Ghosts B} {dir_of : Ghosts D} (words : List ℕ) (v : HollowView B D bank_of dir_of) : Type 0 where
  pub kind : (header_of words).plan.kind ≡ HollowKind
  pub lefts : ReadsSums words 0 v.left
  pub skips : ReadsSums words 1 v.skip
  pub keys : v.keys ≡ (header_of words).keys

-- the distributor is that of a dump of kind hollowdist in the words, with as many delimiters as the keys come to
pub record IsHollowDistView {B D : Type 0} {bank_of : Ghosts B} {dir_of : Ghosts D} (words : List ℕ) (v : HollowDistributor B D bank_of dir_of) : Type 0 where
  pub kind : (header_of words).plan.kind ≡ HollowDistKind
  pub offsets : ReadsFunction words 0 v.offsets
  pub lefts : ReadsSums words 1 v.blocks.left
  pub skips : ReadsSums words 2 v.blocks.skip
  pub turns : ReadsFunction words 3 v.blocks.turns
  pub delimiters : v.blocks.delimiters ≡ delimiter_count (header_of words).plan (header_of words).keys
  pub keys : v.keys ≡ (header_of words).keys
  pub bucket : v.log_bucket ≡ (header_of words).plan.log_bucket

-- the signatures are those of section i of the dump in the words, and the numbers beside them those of the section behind it
pub record ReadsCorrections {B : Type 0} {bank_of : Ghosts B} (words : List ℕ) (i : ℕ) (c : Corrections B bank_of) : Type 0 where
  pub signatures : signatures_read c ≡ signatures_in (section_at (dump_in words) i)
  pub count : c.count ≡ length (signatures_in (section_at (dump_in words) i))
  pub blocks : ReadsNumbers words (i + 1) c.blocks

-- the distributor is that of a dump of kind zfast in the words, with as many delimiters as the keys come to
pub record IsZfastView {B : Type 0} {bank_of : Ghosts B} (words : List ℕ) (v : ZfastDistributor B bank_of) : Type 0 where
  pub kind : (header_of words).plan.kind ≡ ZfastKind
  pub offsets : ReadsFunction words 0 v.offsets
  pub extents : ReadsNumbers words 1 v.blocks.extents
  pub firsts : ReadsNumbers words 2 v.blocks.firsts
  pub middles : ReadsNumbers words 3 v.blocks.middles
  pub afters : ReadsNumbers words 4 v.blocks.afters
  pub handles : ReadsFunction words 5 v.blocks.map.func
  pub marks : ReadsNumbers words 6 v.blocks.map.kept
  pub wide : v.blocks.map.kept.width ≡ (header_of words).plan.handle_bits
  pub codes : ReadsFunction words 7 v.blocks.codes
  pub corrections : ReadsCorrections words 8 v.blocks.corrections
  pub delimiters : v.blocks.delimiters ≡ delimiter_count (header_of words).plan (header_of words).keys
  pub keys : v.keys ≡ (header_of words).keys
  pub bucket : v.log_bucket ≡ (header_of words).plan.log_bucket

-- the length of the longest extent of the nodes of a dump of kind zfast in the words, 0 where there are none
abbrev pub IsLongest : (words : List ℕ) → ℕ → Type 0
IsLongest words longest = longest ≡ largest (numbers_of (dump_in words) 1)

-- what answers is made from the sections of the dump in the words: a row for each kind
pub record IsViewOf {B D : Type 0} {bank_of : Ghosts B} {dir_of : Ghosts D} (words : List ℕ) (view : View B D bank_of dir_of) : Type 0 where
  pub func : (values : FuncView B bank_of) → view ≡ Func values → IsFuncView words values
  pub lcp : (lcp : LcpView B bank_of) → view ≡ Lcp lcp → IsLcpView words lcp
  pub lcp2 : (lcp2 : Lcp2View B bank_of) → view ≡ Lcp2 lcp2 → IsLcp2View words lcp2
  pub hollow : (hollow : HollowView B D bank_of dir_of) → view ≡ Hollow hollow → IsHollowView words hollow
  pub hollow_dist : (dist : HollowDistributor B D bank_of dir_of) → view ≡ HollowDist dist → IsHollowDistView words dist
  pub zfast : (dist : ZfastDistributor B bank_of) → view ≡ Zfast dist → IsZfastView words dist

-- whether what answers for a dump of the kind holds directories in memory
abbrev pub holds_directories : Kind → Bool
holds_directories FuncKind = false
holds_directories LcpKind = false
holds_directories Lcp2Kind = false
holds_directories HollowKind = true
holds_directories HollowDistKind = true
holds_directories ZfastKind = false
