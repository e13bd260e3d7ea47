use Rattle.std.proofs.Common.{◌≡◌, ◌+◌, ◌-◌, ◌*◌, ◌∙◌, map, length, ap, arith}
use Rattle.std.specs.List.{range_with_len}
use Rattle.std.proofs.lemmas.List.{length-append}
use Rattle.std.proofs.lemmas.List.FromFn.{length-map-range_with_len}
use Rattle.sx_ranksel.specs.Directory.{number_at}
use Rattle.sx_ranksel.specs.Groups.{place_of}
use Rattle.sx_ranksel.proofs.GroupWords.{one_stands, short_group, long_group}
use Rattle.sx_ranksel.proofs.groups.group_word.Goals as goal

pub returns-then-end-start-clause-group : goal.returns-then-end-start-clause-group
returns-then-end-start-clause-group g c =
    let x = number_at c.args.first (g.B.WordBank.words_of c.args.bank.now) in
    let r = c.requires in
    short_group c.args.bits x c.args.group c.args.start.place c.args.last c.args.end c.args.places.now.items r.few r.some r.start r.last r.end c.if-end-start.true

pub push_places-requires-clause-start : goal.push_places-requires-clause-start
push_places-requires-clause-start g c =
    let x = number_at c.args.first (g.B.WordBank.words_of c.args.bank.now) in
    let stands = one_stands c.args.bits x (64 * c.args.group) c.requires.some in
    omega (arith, c.requires.start, stands.0)

pub returns-clause-group : goal.returns-clause-group
returns-clause-group g c =
    let x = number_at c.args.first (g.B.WordBank.words_of c.args.bank.now) in
    let r = c.requires in
    let n = c.args.last + 1 - 64 * c.args.group in
    long_group c.args.bits x c.args.group c.args.start.place c.args.last c.args.end c.len-listed.result n c.args.places.now.items c.push_places.new.places.items r.some r.start r.last r.end c.if-end-start.false (omega (arith, c.len-listed.ensures, c.args.places.now.ok.0)) (λ _. n) c.in_ok-push_places.ensures.places

pub returns-clause-few : goal.returns-clause-few
returns-clause-few g c =
    let x = number_at c.args.first (g.B.WordBank.words_of c.args.bank.now) in
    let n = c.args.last + 1 - 64 * c.args.group in
    let old = c.args.places.now.items in
    let more = map (place_of c.args.bits x) (range_with_len (64 * c.args.group) n) in
    let size : length more ≡ n = length-map-range_with_len (place_of c.args.bits x) (64 * c.args.group) n in
    let whole : length c.push_places.new.places.items ≡ length old + length more = ap length c.in_ok-push_places.ensures.places ∙ length-append old more in
    omega (arith, c.requires.last)
