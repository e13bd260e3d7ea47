-- Signatures of strings without a tag.
use Rattle.std.proofs.Common.{◌≡◌, ℕ, None}
use Rattle.sx_spec_strings.specs.Bits.{Bits, tagged}
use Rattle.sx_spec.specs.declared.Signature.{Signature}
use Rattle.sx_spec.specs.Signature.{signature}

-- a string's own signature is that of the string without a tag
pub untagged : (seed sig_bits : ℕ) (x : Bits) (sig : Signature) → sig ≡ signature seed sig_bits (tagged None x) → sig ≡ signature seed sig_bits x
unfolding tagged
untagged seed sig_bits x sig signs = signs
