use Rattle.sx_static.proofs.Xors.{met_by_second, met_by_third, below_set}
use Rattle.sx_static.proofs.cells.settle.Goals as goal

pub returns-in-1-clause-met : goal.returns-in-1-clause-met
returns-in-1-clause-met c = met_by_second c.args.cells.now c.args.edge c.args.value c.requires.within

pub returns-in_default-clause-met : goal.returns-in_default-clause-met
returns-in_default-clause-met c = met_by_third c.args.cells.now c.args.edge c.args.value c.requires.within

pub returns-in-0-clause-narrow : goal.returns-in-0-clause-narrow
returns-in-0-clause-narrow c n small below = below_set n c.args.cells.now c.args.edge.a c.args.edge.b c.args.edge.c c.args.value c.requires.within.b c.requires.within.c small below

pub returns-in-1-clause-narrow : goal.returns-in-1-clause-narrow
returns-in-1-clause-narrow c n small below = below_set n c.args.cells.now c.args.edge.b c.args.edge.a c.args.edge.c c.args.value c.requires.within.a c.requires.within.c small below

pub returns-in_default-clause-narrow : goal.returns-in_default-clause-narrow
returns-in_default-clause-narrow c n small below = below_set n c.args.cells.now c.args.edge.c c.args.edge.a c.args.edge.b c.args.value c.requires.within.a c.requires.within.b small below
