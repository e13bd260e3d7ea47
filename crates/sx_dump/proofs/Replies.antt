-- What a dump replies.
use Rattle.std.proofs.Common.{◌≡◌, ℕ, Bool, true, false, refl, ◌+◌, ◌*◌, List, length, Option, Some, None, sym, ap, ◌∙◌}
use Rattle.std.specs.Prelude.{◌==◌, if◌then◌else◌}
use Rattle.std.proofs.lemmas.Bool.{eq-eqb, ne_eqb}
use Rattle.sx_fields.specs.declared.bank.WordBank.{Ghosts}
use Rattle.sx_fields.specs.declared.packed.Packed.{Packed}
use Rattle.sx_spec_kinds.specs.Blocks.{block_size}
use Rattle.sx_spec_kinds.specs.declared.Kind.{Kind}
use Rattle.sx_spec_kinds.specs.declared.Kind.TheVariants.{Func, Lcp, Lcp2, Hollow, HollowDist, Zfast}
use Rattle.sx_spec_kinds.specs.Hollow.{walk_of}
use Rattle.sx_spec_kinds.specs.HollowDistributor.{hollow_dist_reply}
use Rattle.sx_spec_kinds.specs.Lcp.{lcp_reply, lcp2_reply}
use Rattle.sx_spec_kinds.specs.Reads.{reads_of, unsigned_reads}
use Rattle.sx_spec_kinds.specs.Zfast.{zfast_reply}
use Rattle.sx_spec_strings.specs.Numbers.{binary_digits}
use Rattle.sx_spec_strings.specs.Bits.{Bits, tagged}
use Rattle.sx_spec.specs.declared.Signature.{Signature}
use Rattle.sx_spec.specs.Layout.{Dump, Header as HeaderOf, header_of}
use Rattle.sx_spec.specs.Reply.{answer_of, block_beside, gaps, kept_numbers, kind_reply, nodes_in, section_at, sign, signatures_in, string_reply, top_bits}
use Rattle.sx_spec.specs.Signature.{signature}
use Rattle.sx_spec.specs.StaticFunction.{value_of}
use Rattle.sx_static.specs.declared.view.FuncView.{FuncView}
use Rattle.sx_signed.specs.Lookup.{place_of_signature}
use Rattle.sx_signed.proofs.Lookups.{none_signed, signed_by_signature}
use Rattle.sx_lcp.specs.declared.lcp.LcpView.{LcpView}
use Rattle.sx_lcp.specs.declared.lcp2.Lcp2View.{Lcp2View}
use Rattle.sx_hollow.specs.declared.view.HollowView.{HollowView}
use Rattle.sx_static.specs.Reading.{answers_by, function_read}
use Rattle.sx_sections.specs.declared.header.Header.{Header}
use Rattle.sx_sections.specs.declared.place.Place.{Place}
use Rattle.sx_distributors.specs.declared.hollow.HollowDistributor.{HollowDistributor}
use Rattle.sx_distributors.specs.declared.zfast.ZfastDistributor.{ZfastDistributor}
use Rattle.sx_zfast.specs.Maps.{map_read}
use Rattle.sx_zfast.specs.Views.{corrected_by, nodes_read}
use Rattle.sx_dump.specs.Opening.{IsOpened, dump_in}
use Rattle.sx_dump.specs.Replying.{kept_reads, place_kept, string_reads}
use Rattle.sx_dump.specs.Viewing.{IsFuncView, IsHollowDistView, IsHollowView, IsLcp2View, IsLcpView, IsZfastView, ReadsFunction, ReadsKept, numbers_by, sums_by}

-- ---- by what is kept

-- an unsigned dump keeps every place
pub unsigned_kept : (d : Dump) (sig : Signature) (place : Option ℕ) → d.header.plan.signed ≡ 0 → place ≡ place_kept d sig place
unsigned_kept d sig place none =
    sym (ap (λ (t : Bool). if t then place else place_of_signature (kept_numbers d) d.header.plan.signed sig place) (eq-eqb d.header.plan.signed 0 none))

-- no place stays none
pub none_kept : (d : Dump) (sig : Signature) (place : Option ℕ) → place ≡ None → None ≡ place_kept d sig place
none_kept d sig place none =
    either (d.header.plan.signed == 0)
    ∙ ap (λ (o : Option ℕ). place_kept d sig o) (sym none)
  where
    either : (t : Bool) → None ≡ (if t then None else place_of_signature (kept_numbers d) d.header.plan.signed sig None)
    either true = refl
    either false = none_signed (kept_numbers d) _ _

-- a signed dump keeps a place by the numbers that are read
pub signed_kept : (words : List ℕ) {B : Type 0} {bank_of : Ghosts B} (p : Packed B bank_of) → ReadsKept words p → (sig : Signature) (place given reply : Option ℕ)
    → given ≡ place → reply ≡ place_of_signature (numbers_by p) p.width sig given → reply ≡ place_kept (dump_in words) sig place
signed_kept words p reads sig place given reply same is =
    let d = dump_in words in
    is
    ∙ (λ i. place_of_signature (reads.numbers i) (reads.width i) sig (same i))
    ∙ sym (ap (λ (t : Bool). if t then place else place_of_signature (kept_numbers d) d.header.plan.signed sig place) (ne_eqb d.header.plan.signed 0 reads.signed))

-- ---- by the kind

-- the signature of a string by the header that was read
pub sign_is : (words : List ℕ) (h : Header) (places : List Place) → IsOpened words h places → (bits : Bits) (sig : Signature) → sig ≡ signature h.seed h.plan.sig_bits (tagged None bits) → sig ≡ sign (dump_in words).header bits
unfolding tagged
sign_is words h places is bits sig signs = signs ∙ ap (λ (g : HeaderOf). signature g.seed g.plan.sig_bits bits) (sym is.header)

-- what is kept of a string's place
by_signature : (d : Dump) (x : Bits) → place_kept d (sign d.header x) (kind_reply d.header.plan.kind d x) ≡ string_reply d x
by_signature d x =
    let place = kind_reply d.header.plan.kind d x in
    ap (λ (o : Option ℕ). if d.header.plan.signed == 0 then place else o) (signed_by_signature (kept_numbers d) d.header.plan.signed (sign d.header) x place)

module _ (words : List ℕ) (kind : Kind) (same : (header_of words).plan.kind ≡ kind) where
  -- it replies what is kept of the place of its kind
  pub reply_is : (bits : Bits) (sig : Signature) (place reply : Option ℕ) → sig ≡ sign (dump_in words).header bits → place ≡ kind_reply kind (dump_in words) bits
      → reply ≡ place_kept (dump_in words) sig place → reply ≡ string_reply (dump_in words) bits
  reply_is bits sig place reply signs is kept =
      let d = dump_in words in
      let by_kind : place ≡ kind_reply d.header.plan.kind d bits = is ∙ ap (λ (k : Kind). kind_reply k d bits) (sym same) in
      kept ∙ (λ i. place_kept d (signs i) (by_kind i)) ∙ by_signature d bits

  -- in so many reads
  pub reads_are : (bits : Bits) → string_reads (dump_in words) bits ≡ unsigned_reads kind (length bits) (length (signatures_in (section_at (dump_in words) 8))) + kept_reads (dump_in words)
  reads_are bits = ap (λ (k : Kind). reads_of k (dump_in words).header.plan.signed (length bits) (length (signatures_in (section_at (dump_in words) 8)))) same

-- ---- by functions

pub func_place_is : (words : List ℕ) {B : Type 0} {bank_of : Ghosts B} (v : FuncView B bank_of) → IsFuncView words v → (bits : Bits) (sig : Signature) (value : ℕ)
    → sig ≡ sign (dump_in words).header bits → value ≡ value_of (function_read v) sig → Some value ≡ kind_reply Func (dump_in words) bits
func_place_is words v view bits sig value signs is =
    ap (λ (n : ℕ). Some n) (is ∙ (λ i. value_of (view.values.function i) (signs i)))

-- ---- by distributors

module _ (words : List ℕ) (h : Header) (places : List Place) (is : IsOpened words h places) where
  -- a function that is read answers strings as its section does
  answers_are : {B : Type 0} {bank_of : Ghosts B} (i : ℕ) (v : FuncView B bank_of) → ReadsFunction words i v → answers_by v h.seed h.plan.sig_bits ≡ answer_of (dump_in words) i
  answers_are i v reads = λ j x. value_of (reads.function j) (sign (sym is.header j) x)

  pub lcp_place_is : {B : Type 0} {bank_of : Ghosts B} (v : LcpView B bank_of) → IsLcpView words v → (bits : Bits)
      → lcp_reply v.keys (block_size v.log_bucket) (answers_by v.lengths h.seed h.plan.sig_bits) (answers_by v.prefixes h.seed h.plan.sig_bits) bits
      ≡ kind_reply Lcp (dump_in words) bits
  lcp_place_is v view bits =
      λ j. lcp_reply (view.keys j) (block_size (view.bucket j)) (answers_are 0 v.lengths view.lengths j) (answers_are 1 v.prefixes view.prefixes j) bits

  pub lcp2_place_is : {B : Type 0} {bank_of : Ghosts B} (v : Lcp2View B bank_of) → IsLcp2View words v → (bits : Bits)
      → lcp2_reply v.keys (block_size v.log_bucket) (answers_by v.offsets h.seed h.plan.sig_bits) (answers_by v.codes h.seed h.plan.sig_bits) (numbers_by v.table)
      (answers_by v.escaped h.seed h.plan.sig_bits) (answers_by v.prefixes h.seed h.plan.sig_bits) bits
      ≡ kind_reply Lcp2 (dump_in words) bits
  lcp2_place_is v view bits =
      λ j. lcp2_reply (view.keys j) (block_size (view.bucket j)) (answers_are 0 v.offsets view.offsets j) (answers_are 1 v.codes view.codes j) (view.table.numbers j)
      (answers_are 3 v.escaped view.escaped j) (answers_are 4 v.prefixes view.prefixes j) bits

  pub hollow_dist_place_is : {B D : Type 0} {bank_of : Ghosts B} {dir_of : Ghosts D} (v : HollowDistributor B D bank_of dir_of) → IsHollowDistView words v → (bits : Bits)
      → hollow_dist_reply v.keys (block_size v.log_bucket) (gaps (sums_by v.blocks.left)) (gaps (sums_by v.blocks.skip)) (answers_by v.offsets h.seed h.plan.sig_bits)
      (answers_by v.blocks.turns h.seed h.plan.sig_bits) v.blocks.delimiters bits
      ≡ kind_reply HollowDist (dump_in words) bits
  hollow_dist_place_is v view bits =
      λ j. hollow_dist_reply (view.keys j) (block_size (view.bucket j)) (gaps (view.lefts.numbers j)) (gaps (view.skips.numbers j)) (answers_are 0 v.offsets view.offsets j)
      (answers_are 3 v.blocks.turns view.turns j) (view.delimiters j) bits

  pub zfast_place_is : {B : Type 0} {bank_of : Ghosts B} (v : ZfastDistributor B bank_of) → IsZfastView words v → (bits : Bits)
      → zfast_reply v.keys (block_size v.log_bucket) (answers_by v.offsets h.seed h.plan.sig_bits) v.blocks.delimiters (nodes_read v.blocks)
      (map_read v.blocks.map h.seed h.plan.sig_bits) (answers_by v.blocks.codes h.seed h.plan.sig_bits) (corrected_by v.blocks.corrections h.seed h.plan.sig_bits) bits
      ≡ kind_reply Zfast (dump_in words) bits
  zfast_place_is v view bits =
      λ j. zfast_reply (view.keys j) (block_size (view.bucket j)) (answers_are 0 v.offsets view.offsets j) (view.delimiters j)
      (nodes_in (view.extents.numbers j) (view.firsts.numbers j) (view.middles.numbers j) (view.afters.numbers j))
      (record {
        handles = answers_are 5 v.blocks.map.func view.handles j;
        mark_of = λ y. top_bits (view.wide j) (sign (sym is.header j) y);
        marks = view.marks.numbers j;
      })
      (answers_are 7 v.blocks.codes view.codes j) (λ y. block_beside (view.corrections.signatures j) (view.corrections.blocks.numbers j) (sign (sym is.header j) y)) bits

-- in so many reads, by the corrections that are read
pub zfast_reads_are : (words : List ℕ) {B : Type 0} {bank_of : Ghosts B} (v : ZfastDistributor B bank_of) → IsZfastView words v → (bits : Bits)
    → string_reads (dump_in words) bits ≡ 12 * binary_digits (length bits) + 3 * binary_digits v.blocks.corrections.count + 32 + kept_reads (dump_in words)
zfast_reads_are words v view bits =
    reads_are words Zfast view.kind bits
    ∙ ap (λ (n : ℕ). unsigned_reads Zfast (length bits) n + kept_reads (dump_in words)) (sym view.corrections.count)

-- ---- by hollow tries

pub hollow_place_is : (words : List ℕ) {B D : Type 0} {bank_of : Ghosts B} {dir_of : Ghosts D} (v : HollowView B D bank_of dir_of) → IsHollowView words v → (bits : Bits)
    → walk_of (gaps (sums_by v.left)) (gaps (sums_by v.skip)) v.keys bits ≡ kind_reply Hollow (dump_in words) bits
hollow_place_is words v view bits = λ j. walk_of (gaps (view.lefts.numbers j)) (gaps (view.skips.numbers j)) (view.keys j) bits
