-- From what a run did to all that it promises.
use Rattle.std.proofs.Common.{◌≡◌, ◌≢◌, ℕ, Bool, true, false, refl, sym, subst, ◌∙◌, inl, inr}
use Rattle.sx_spec.specs.declared.Status.{Status}
use Rattle.sx_spec.specs.declared.Status.TheVariants.{Fault, Memory}
use Rattle.sx_spec.specs.Causes.{is_fault}
use Rattle.sx_spec.specs.Command.{Task, build, trial}
use Rattle.sx_spec.specs.Messages.{at_output}
use Rattle.sx_spec.specs.Outcomes.{Profile, IsDue}
use Rattle.sx_spec.specs.Run.{Promise, IsDecided, OutOfMemory, Disturbed, QueryReads, KeepsUnused}
use Rattle.sx_spec.specs.World.{World, Outcome, Happens, KeepsCounts, NoCountFell, CountsStay}
use Rattle.sx_spec.proofs.Due.{one_status_is_due}
use Rattle.sx_cli.proofs.Decided.{decided}

-- a status other than that of a fault is none
pub no_fault : (status : Status) → status ≢ Fault → is_fault status ≡ false
no_fault Fault ne = absurd (ne refl)
no_fault _ ne = refl

module _ (before after : World) where
  -- no count fell
  pub none_fell : (failed : Bool) → CountsStay failed before after → NoCountFell before after
  none_fell failed c = record { shelf = c.shelf.later; input = c.input.later; out = c.out.later; err = c.err.later }

  -- no call failed, so every count is as it was
  pub kept_counts : (status : Status) → status ≢ Fault → CountsStay (is_fault status) before after → KeepsCounts before after
  kept_counts status ne c =
      let calm = no_fault status ne in
      record { shelf = c.shelf.calm calm; input = c.input.calm calm; out = c.out.calm calm; err = c.err.calm calm }

  -- the counts at the same status
  pub counts_as : (a b : Status) → a ≡ b → CountsStay (is_fault a) before after → CountsStay (is_fault b) before after
  counts_as a b same c = subst (λ (s : Status). CountsStay (is_fault s) before after) same c

module _ (p : Profile) (task : Task) (before after : World) (ticks : ℕ) (status : Status) where
  -- the run came to an outcome that is due
  pub by_outcome : (o : Outcome) → IsDue p task before o → o.status ≡ status → status ≢ Fault → status ≢ Memory → Happens before after o
      → QueryReads p task before after at_output ticks → KeepsUnused task before after → CountsStay (is_fault status) before after → Promise p task before after ticks status
  by_outcome o due same no_fault no_memory happens reads unused counts = record {
    ended = λ _ _. (o, due, same, happens);
    reads = λ _. reads;
    memory = λ e. absurd (no_memory e);
    fault = λ e. absurd (no_fault e);
    due = λ quiet enough other other_due. inl (sym (one_status_is_due p task before other o enough other_due due ∙ same));
    seeds = λ quiet. subst (IsDecided p task before) same (decided p task before o due);
    unused = unused;
    calm = λ no. kept_counts before after status no counts;
    counts = none_fell before after (is_fault status) counts;
  }

-- memory was wanting
pub by_memory : (p : Profile) (task : Task) (before after : World) (ticks : ℕ) → OutOfMemory task before after
    → QueryReads p task before after at_output ticks → KeepsUnused task before after → CountsStay false before after → Promise p task before after ticks Memory
by_memory p task before after ticks out reads unused counts = record {
  ended = λ _ no. absurd (no refl);
  reads = λ _. reads;
  memory = λ _. out;
  fault = λ e. absurd cc;
  due = λ quiet enough other other_due. inr refl;
  seeds = λ quiet. undecided p task before;
  unused = unused;
  calm = λ no. kept_counts before after Memory no counts;
  counts = none_fell before after false counts;
}
  where
    undecided : (p : Profile) (task : Task) (before : World) → IsDecided p task before Memory
    undecided p (build task) before = λ enough keys values given. record { works = λ s within works. inr refl; fails = λ all. inr refl }
    undecided p (trial kind n) before = record { works = λ s within works. inr refl; fails = λ all. inr refl }
    undecided p _ before = tt

-- a call on an object failed
pub by_fault : (p : Profile) (task : Task) (before after : World) (ticks : ℕ) → Disturbed p task before after ticks
    → KeepsUnused task before after → CountsStay true before after → Promise p task before after ticks Fault
by_fault p task before after ticks disturbed unused counts = record {
  ended = λ no _. absurd (no refl);
  reads = λ no. absurd (no refl);
  memory = λ e. absurd cc;
  fault = λ _. disturbed;
  due = λ quiet. absurd (quiet _ disturbed.cause);
  seeds = λ quiet. absurd (quiet _ disturbed.cause);
  unused = unused;
  calm = λ no. absurd (no refl);
  counts = none_fell before after true counts;
}
