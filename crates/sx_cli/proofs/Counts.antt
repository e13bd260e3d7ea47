-- Counts of faults over several calls.
use Rattle.std.proofs.Common.{◌≡◌, ℕ, ◌≤◌, Bool, false, refl, sym, subst, ◌∙◌, arith, List, Option}
use Rattle.sx_spec.specs.declared.Status.{Status}
use Rattle.sx_spec.specs.declared.Status.TheVariants.{Fault}
use Rattle.sx_spec.specs.Causes.{StaysUnless, is_fault}
use Rattle.sx_cli.specs.declared.serve.Served.{Served}
use Rattle.sx_cli.specs.declared.serve.Served.TheVariants.{Done, TooLong, TooMany, InputFailed, OutputFailed}
use Rattle.sx_cli.specs.Serving.{Ends, input_failed, out_failed}

-- an object that wasn't called
pub untouched : (failed : Bool) (n : ℕ) → StaysUnless failed n n
untouched failed n = record { later = omega arith; calm = λ _. refl }

-- an object whose calls were all answered
pub answered : (failed : Bool) (a b : ℕ) → StaysUnless false a b → StaysUnless failed a b
answered failed a b s = record { later = s.later; calm = λ _. s.calm refl }

-- a run that ends with a fault
pub faulted : (status : Status) (a b : ℕ) → status ≡ Fault → a ≤ b → StaysUnless (is_fault status) a b
faulted status a b is later = subst (λ (s : Status). StaysUnless (is_fault s) a b) (sym is) (record { later = later; calm = λ e. absurd cc })

-- calls after others
pub chained : (failed : Bool) (a b c : ℕ) → StaysUnless failed a b → StaysUnless failed b c → StaysUnless failed a c
chained failed a b c s t =
    let first = s.later in
    let second = t.later in
    record { later = omega (arith, first, second); calm = λ e. t.calm e ∙ s.calm e }

module _ (old new : Option (List ℕ)) (before after : ℕ) (result : Status) (a b : ℕ) where
  -- what is counted at input where the lines came to an end
  pub input_counts : (served : Served) → Ends served old new before after result → StaysUnless (input_failed served) a b → StaysUnless (is_fault result) a b
  input_counts InputFailed e s = faulted result a b e.is s.later
  input_counts Done e s = answered (is_fault result) a b s
  input_counts (TooLong line) e s = answered (is_fault result) a b s
  input_counts TooMany e s = answered (is_fault result) a b s
  input_counts OutputFailed e s = answered (is_fault result) a b s

  -- and at out
  pub out_counts : (served : Served) → Ends served old new before after result → StaysUnless (out_failed served) a b → StaysUnless (is_fault result) a b
  out_counts OutputFailed e s = faulted result a b e.is s.later
  out_counts Done e s = answered (is_fault result) a b s
  out_counts (TooLong line) e s = answered (is_fault result) a b s
  out_counts TooMany e s = answered (is_fault result) a b s
  out_counts InputFailed e s = answered (is_fault result) a b s
