-- What the objects that a run is handed are to a contract: each by its trait and its state.
use Rattle.std.specs.Prelude.{◌≡◌, ℕ, ◌⊎◌, List, Option, None}
use Rattle.sx_edge.specs.declared.shelf.Shelf.{Ghosts as ShelfGhosts}
use Rattle.sx_edge.specs.declared.sink.Sink.{Ghosts as SinkGhosts}
use Rattle.sx_edge.specs.declared.source.Source.{Ghosts as SourceGhosts}
use Rattle.sx_spec.specs.declared.Status.{Status}
use Rattle.sx_spec.specs.declared.Status.TheVariants.{Memory}
use Rattle.sx_spec.specs.Command.{Text}
use Rattle.sx_spec.specs.Messages.{Place, memory_text}
use Rattle.sx_spec.specs.World.{World, Files, world}
use Rattle.sx_cli.specs.declared.serve.Served.{Served}
use Rattle.sx_cli.specs.Serving.{Ends, Finishes}
use Rattle.sx_cli.specs.Showing.{Shows}
use Rattle.sx_cli.specs.Telling.{Tells, Fails}

module _ {F S O E : Type 0} (f : ShelfGhosts F) (s : SourceGhosts S) (o : SinkGhosts O) (e : SinkGhosts E) where
  -- files, input, out and err
  abbrev pub world_of : F → S → O → E → World
  world_of files input out err =
      world (f.files files) (s.left input) (o.written out) (e.written err) (f.faults files) (s.faults input) (o.faults out) (e.faults err)

module _ {F O E : Type 0} (f : ShelfGhosts F) (o : SinkGhosts O) (e : SinkGhosts E) where
  -- the same with an input that has these bytes left and has failed so often
  abbrev pub world_with : Option (List ℕ) → ℕ → F → O → E → World
  world_with input input_faults files out err =
      world (f.files files) input (o.written out) (e.written err) (f.faults files) input_faults (o.faults out) (e.faults err)

  -- the same without an input
  abbrev pub world_without_input : F → O → E → World
  world_without_input files out err = world_with None 0 files out err

module _ {S O : Type 0} (s : SourceGhosts S) (o : SinkGhosts O) where
  -- input and out alone
  abbrev pub world_of_streams : S → O → World
  world_of_streams input out = world None (s.left input) (o.written out) None 0 (s.faults input) (o.faults out) 0

module _ {E : Type 0} (e : SinkGhosts E) where
  -- err got the message, or a write of it failed
  abbrev pub TellsOn : Text → Status → E → E → Status → Type 0
  TellsOn text status old new result = Tells text status (e.written old) (e.written new) (e.faults old) (e.faults new) result

  -- the same, or memory was wanting for it, and that is told
  abbrev pub TellsOrWants : Text → Status → E → E → Status → Type 0
  TellsOrWants text status old new result = TellsOn text status old new result ⊎ TellsOn memory_text Memory old new result

  -- err got the message of a failed call, as far as it went
  abbrev pub FailsOn : Place → E → E → Status → Type 0
  FailsOn place old new result = Fails place (e.written old) (e.written new) (e.faults old) (e.faults new) result

  -- err got what goes with what the query lines came to
  abbrev pub EndsOn : Served → E → E → Status → Type 0
  EndsOn served old new result = Ends served (e.written old) (e.written new) (e.faults old) (e.faults new) result

  -- the answers that were held were written, or a write of them failed
  abbrev pub FinishesOn : List ℕ → E → E → Served → Served → Type 0
  FinishesOn held old new served result = Finishes held (e.written old) (e.written new) (e.faults old) (e.faults new) served result

  -- nothing was written, and no write failed
  abbrev pub IsQuietOn : E → E → Type 0
  IsQuietOn old new = (e.written new ≡ e.written old) × (e.faults new ≡ e.faults old)

module _ {O E : Type 0} (o : SinkGhosts O) (e : SinkGhosts E) where
  -- out got the text, or err is told why not
  abbrev pub ShowsOn : Text → O → O → E → E → Status → Type 0
  ShowsOn text out_old out_new err_old err_new result =
      Shows text (o.written out_old) (o.written out_new) (o.faults out_old) (o.faults out_new)
      (e.written err_old) (e.written err_new) (e.faults err_old) (e.faults err_new) result

  -- out and err, with a shelf and an input that tell so much and have failed so often
  abbrev pub world_of_sinks : Option Files → Option (List ℕ) → ℕ → ℕ → O → E → World
  world_of_sinks files input shelf_faults input_faults out err =
      world files input (o.written out) (e.written err) shelf_faults input_faults (o.faults out) (e.faults err)
