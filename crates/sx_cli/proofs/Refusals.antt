-- What a run promises whose words are refused, or that finds no memory for them.
use Rattle.std.proofs.Common.{◌≡◌, ℕ, refl, inl, inr, ◌⊎◌}
use Rattle.sx_spec.specs.declared.Status.{Status}
use Rattle.sx_spec.specs.declared.Status.TheVariants.{Usage, Memory}
use Rattle.sx_spec.specs.declared.Rule.{Rule}
use Rattle.sx_spec.specs.Causes.{is_fault}
use Rattle.sx_spec.specs.Command.{Text, Task, usage, build, query, open_dump, show_dump, trial}
use Rattle.sx_spec.specs.Messages.{Place, at_output, at_error, memory_text, usage_text}
use Rattle.sx_spec.specs.Outcomes.{usage_outcome}
use Rattle.sx_spec.specs.Run.{Promise, KeepsUnused, QueryReads, QueryAfterFault}
use Rattle.sx_spec.specs.World.{World, CountsStay, KeepsShelf, KeepsInput, KeepsOut}
use Rattle.sx_spec_program.specs.Program.{sux_program}
use Rattle.sx_cli.specs.Telling.{Tells}
use Rattle.sx_cli.proofs.Endings.{by_message, by_memory_message, kept_appends}

module _ (before after : World) (ticks : ℕ) (none : ticks ≡ 0) (result : Status) (counts : CountsStay (is_fault result) before after) (shelf : KeepsShelf before after) (input : KeepsInput before after) (out : KeepsOut before after) where
  -- no word was read
  no_reads : (task : Task) (place : Place) → QueryReads sux_program task before after place ticks
  no_reads (usage rule) place = tt
  no_reads (build task) place = tt
  no_reads (query name) place = inl none
  no_reads (open_dump name) place = tt
  no_reads (show_dump name) place = tt
  no_reads (trial kind keys) place = tt

  unused : (task : Task) → KeepsUnused task before after
  unused (usage rule) = (shelf, input, out)
  unused (build task) = tt
  unused (query name) = tt
  unused (open_dump name) = input
  unused (show_dump name) = input
  unused (trial kind keys) = (shelf, input)

  unasked : (name : Text) → QueryAfterFault sux_program name before after at_error
  unasked name = record {
    input_failed = λ _ _ _. inr (refl, record { input = input; out = out.bytes });
    message_failed = λ _. inl out.bytes;
  }

  -- memory was wanting for the words, or for what is told of them
  pub words_memory : (task : Task) → Tells memory_text Memory before.err after.err before.faults.err after.faults.err result → Promise sux_program task before after ticks result
  words_memory task told = by_memory_message task before after ticks result shelf.files out.bytes (λ name same. input.bytes) told (λ name same. unasked name)
      (no_reads task at_output) (no_reads task at_error) (unused task) counts

  -- a rule of usage refuses the words
  pub words_refused : (rule : Rule)
      → Tells (usage_text rule) Usage before.err after.err before.faults.err after.faults.err result ⊎ Tells memory_text Memory before.err after.err before.faults.err after.faults.err result
      → Promise sux_program (usage rule) before after ticks result
  words_refused rule (inl told) = by_message (usage rule) before after ticks (usage_outcome rule) refl (usage_text rule) refl Usage result refl (λ e. absurd cc) (λ e. absurd cc) refl
      shelf.files input.bytes (kept_appends before.out after.out out.bytes) told (λ name same. absurd cc) tt tt (shelf, input, out) counts
  words_refused rule (inr told) = words_memory (usage rule) told
