-- Headers by their numbers.
use Rattle.std.specs.Prelude.{slice_get, unwrap_or}
use Rattle.sx_spec_kinds.specs.declared.Kind.TheVariants.{Func}
use Rattle.sx_spec.specs.declared.Method.TheVariants.{Mwhc}
use Rattle.sx_spec.specs.Layout.{kinds, methods}
use Rattle.sx_sections.specs.declared.header.Header.{Header}
use Rattle.sux_c.specs.declared.header.SuxHeader.{SuxHeader}

-- the header of these numbers
abbrev pub header_in : SuxHeader → Header
header_in h = record {
  plan = record {
    kind = unwrap_or (slice_get kinds h.kind) Func;
    method = unwrap_or (slice_get methods h.method) Mwhc;
    log_bucket = h.log_bucket;
    sig_bits = h.sig_bits;
    handle_bits = h.handle_bits;
    signed = h.signed_bits;
  };
  keys = h.keys;
  seed = h.seed;
}
