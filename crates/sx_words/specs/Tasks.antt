-- What a task that was read stands for.
use Rattle.sx_spec.specs.Command as words
use Rattle.sx_words.specs.declared.Task.{Task}
use Rattle.sx_words.specs.declared.Task.TheVariants.{Usage, Build, Query, Open, Dump, Trial}

-- the task
abbrev pub task_of : Task → words.Task
task_of (Usage rule) = words.usage rule
task_of (Build task) = words.build (record { plan = task.plan; seeds = task.seeds; values = task.values; dump = task.dump })
task_of (Query dump) = words.query dump
task_of (Open dump) = words.open_dump dump
task_of (Dump dump) = words.show_dump dump
task_of (Trial kind keys) = words.trial kind keys
