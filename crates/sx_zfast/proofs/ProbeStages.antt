-- The searches of a key, stage by stage, by what is answered for a prefix.
use Rattle.std.proofs.Common.{◌≡◌, ℕ, ◌-◌, ◌<◌, ◌≤◌, Bool, true, false, List, [], length, map, take, Option, Some, None, refl, sym, ap, subst, ◌∙◌, arith}
use Rattle.std.proofs.Math.ListN.{get_or-map as get_or-map_of}
use Rattle.std.proofs.lemmas.List.{length-map}
use Rattle.std.specs.List.{slice_index}
use Rattle.std.specs.Option.{is_some}
use Rattle.std.specs.Prelude.{filter}
use Rattle.sx_spec_strings.specs.Bits.{Bits}
use Rattle.sx_spec_kinds.specs.Fattest.{fattest}
use Rattle.sx_spec_kinds.specs.Trie.{Node, IsTrie, node_at, no_node, node_of, extents_of}
use Rattle.sx_spec_kinds.specs.Search.{Search, reached, node_for, answers_of, handle_node, handles_of, true_search_of}
use Rattle.sx_spec_kinds.specs.Zfast.{HandleMap, probed_node, probed_search_of, is_false_probe, false_probes}
use Rattle.sx_spec_kinds.proofs.FattestLaws.{fattest_lem}
use Rattle.sx_spec_kinds.proofs.ProbeLaws.{lens_of_nodes}
use Rattle.sx_spec_kinds.proofs.TrieLaws.{extents_trie, length-extents_of}
use Rattle.sx_trie.specs.Tries.{Contents, IsTrieOf, delimiter_bits}
use Rattle.sx_zfast.proofs.HandleAnswers.{answer_at}
use Rattle.sx_zfast.proofs.SearchStages.{Searches, searches_start, searches_done, searches_onward, searches_shorter, searches_found, reached_long}

-- the lengths of the nodes' extents
abbrev pub lens_in : List Node → List ℕ
lens_in nodes = map (λ w. w.extent) nodes

-- the extents of the trie of some of the lines
abbrev pub extents_in : List (List ℕ) → Contents → List Bits
extents_in lines t = extents_of (delimiter_bits lines t.delimiters)

pub lens_same : (lines : List (List ℕ)) (t : Contents) → IsTrieOf lines t → lens_in t.nodes ≡ map length (extents_in lines t)
lens_same lines t built =
    ap lens_in built.nodes ∙ lens_of_nodes (delimiter_bits lines t.delimiters) (extents_in lines t)

pub is_trie : (lines : List (List ℕ)) (t : Contents) → IsTrieOf lines t → IsTrie (extents_in lines t)
is_trie lines t built = extents_trie (delimiter_bits lines t.delimiters) built.keys

pub nodes_some : (lines : List (List ℕ)) (t : Contents) → IsTrieOf lines t → 1 < length t.delimiters → 0 < length t.nodes
nodes_some lines t built some =
    let ds = delimiter_bits lines t.delimiters in
    let size = length-extents_of ds built.keys in
    let all = ap length built.nodes ∙ length-map (extents_of ds) (node_of ds) in
    let many : length ds ≡ length t.delimiters = length-map t.delimiters _ in
    omega arith

pub depth_is : (nodes : List Node) (at extent : ℕ) → extent ≡ (node_at nodes at).extent → slice_index (lens_in nodes) at ≡ extent
depth_is nodes at extent same = get_or-map_of (λ (w : Node). w.extent) nodes at no_node ∙ sym same

-- ---- one question

-- what a length asked is told
told_is : (ask : Bits → Option ℕ) (lens : List ℕ) (x : Bits) (at limit extent f : ℕ) (answer o : Option ℕ) → slice_index lens at ≡ extent → extent < limit → limit ≤ length x → f ≡ fattest extent limit → answer ≡ ask (take f x) → reached lens f answer ≡ o → node_for (answers_of ask x) lens (fattest (slice_index lens at) limit) ≡ o
told_is ask lens x at limit extent f answer o deep more inside size answers leads =
    let within = (fattest_lem extent limit more).within in
    let same : fattest (slice_index lens at) limit ≡ f = ap (λ a. fattest a limit) deep ∙ sym size in
    ap (node_for (answers_of ask x) lens) same
    ∙ ap (reached lens f) (answer_at ask x f (omega arith) ∙ sym answers)
    ∙ leads

pub stage_onward : (ask : Bits → Option ℕ) (lens : List ℕ) (x : Bits) (p : ℕ → Bool) (end : Search) (at limit extent f : ℕ) (answer : Option ℕ) (v : ℕ) → Searches (answers_of ask x) lens p end at limit → slice_index lens at ≡ extent → extent < limit → limit ≤ length x → f ≡ fattest extent limit → answer ≡ ask (take f x) → reached lens f answer ≡ Some v → p f ≡ false → Searches (answers_of ask x) lens p end v limit
stage_onward ask lens x p end at limit extent f answer v h deep more inside size answers leads no' =
    let same : f ≡ fattest (slice_index lens at) limit = size ∙ ap (λ a. fattest a limit) (sym deep) in
    searches_onward (answers_of ask x) lens p end at limit v h (omega arith) (told_is ask lens x at limit extent f answer (Some v) deep more inside size answers leads) (ap p (sym same) ∙ no')

pub stage_shorter : (ask : Bits → Option ℕ) (lens : List ℕ) (x : Bits) (p : ℕ → Bool) (end : Search) (at limit extent f : ℕ) (answer : Option ℕ) → Searches (answers_of ask x) lens p end at limit → slice_index lens at ≡ extent → extent < limit → limit ≤ length x → f ≡ fattest extent limit → answer ≡ ask (take f x) → reached lens f answer ≡ None → p f ≡ false → Searches (answers_of ask x) lens p end at (f - 1)
stage_shorter ask lens x p end at limit extent f answer h deep more inside size answers leads no' =
    let same : f ≡ fattest (slice_index lens at) limit = size ∙ ap (λ a. fattest a limit) (sym deep) in
    let next = searches_shorter (answers_of ask x) lens p end at limit h (omega arith) (told_is ask lens x at limit extent f answer None deep more inside size answers leads) (ap p (sym same) ∙ no') in
    subst (λ g. Searches (answers_of ask x) lens p end at (g - 1)) (sym same) next

-- ---- the search that asks the map

pub Probing : (m : HandleMap) (nodes : List Node) (x : Bits) (at limit : ℕ) → Type 0
Probing m nodes x at limit =
    Searches (answers_of (probed_node m) x) (lens_in nodes) (λ f. false) (probed_search_of m (lens_in nodes) x) at limit

pub probing_starts : (m : HandleMap) (nodes : List Node) (x : Bits) (limit : ℕ) → limit ≡ length x → Probing m nodes x 0 limit
unfolding Probing probed_search_of
probing_starts m nodes x limit same =
    searches_start (answers_of (probed_node m) x) (lens_in nodes) (λ f. false) x limit same

pub probing_ends : (m : HandleMap) (nodes : List Node) (x : Bits) (at limit extent : ℕ) → Probing m nodes x at limit → extent ≡ (node_at nodes at).extent → limit ≤ extent → at ≡ (probed_search_of m (lens_in nodes) x).node
unfolding Probing
probing_ends m nodes x at limit extent h same over =
    let deep = depth_is nodes at extent same in
    (searches_done (answers_of (probed_node m) x) (lens_in nodes) (λ f. false) _ at limit h (omega arith)).0

-- a question is asked: the depth, the limit, and the length that is asked
pub record Asks (nodes : List Node) (x : Bits) (at limit extent f : ℕ) : Type 0 where
  pub deep : extent ≡ (node_at nodes at).extent
  pub more : extent < limit
  pub inside : limit ≤ length x
  pub size : f ≡ fattest extent limit

pub probing_onward : (m : HandleMap) (nodes : List Node) (x : Bits) (at limit extent f : ℕ) (answer : Option ℕ) (v : ℕ) → Probing m nodes x at limit → Asks nodes x at limit extent f → answer ≡ probed_node m (take f x) → reached (lens_in nodes) f answer ≡ Some v → Probing m nodes x v limit
unfolding Probing
probing_onward m nodes x at limit extent f answer v h asks answers leads =
    stage_onward (probed_node m) (lens_in nodes) x (λ f. false) _ at limit extent f answer v h (depth_is nodes at extent asks.deep) asks.more asks.inside asks.size answers leads refl

pub probing_shorter : (m : HandleMap) (nodes : List Node) (x : Bits) (at limit extent f : ℕ) (answer : Option ℕ) → Probing m nodes x at limit → Asks nodes x at limit extent f → answer ≡ probed_node m (take f x) → reached (lens_in nodes) f answer ≡ None → Probing m nodes x at (f - 1)
unfolding Probing
probing_shorter m nodes x at limit extent f answer h asks answers leads =
    stage_shorter (probed_node m) (lens_in nodes) x (λ f. false) _ at limit extent f answer h (depth_is nodes at extent asks.deep) asks.more asks.inside asks.size answers leads refl

-- the node that is reached is deeper
pub deeper : (nodes : List Node) (at limit extent f : ℕ) (answer : Option ℕ) (v : ℕ) → extent ≡ (node_at nodes at).extent → extent < limit → f ≡ fattest extent limit → reached (lens_in nodes) f answer ≡ Some v → limit - (node_at nodes v).extent < limit - (node_at nodes at).extent
deeper nodes at limit extent f answer v deep more size leads =
    let above = (fattest_lem extent limit more).above in
    let long = reached_long (lens_in nodes) f v answer leads in
    let there = depth_is nodes v (node_at nodes v).extent refl in
    omega arith

-- ---- the search that is told of each handle and of no other string

pub Telling : (m : HandleMap) (lines : List (List ℕ)) (t : Contents) (x : Bits) (at limit : ℕ) → Type 0
Telling m lines t x at limit =
    Searches (answers_of (handle_node (handles_of (extents_in lines t))) x) (lens_in t.nodes) (is_false_probe m (extents_in lines t) x) (true_search_of (extents_in lines t) x) at limit

pub telling_starts : (m : HandleMap) (lines : List (List ℕ)) (t : Contents) (x : Bits) (limit : ℕ) → IsTrieOf lines t → limit ≡ length x → Telling m lines t x 0 limit
unfolding Telling true_search_of
telling_starts m lines t x limit built same =
    let es = extents_in lines t in
    subst (λ lens. Searches (answers_of (handle_node (handles_of es)) x) lens (is_false_probe m es x) (true_search_of es x) 0 limit) (sym (lens_same lines t built))
    (searches_start (answers_of (handle_node (handles_of es)) x) (map length es) (is_false_probe m es x) x limit same)

first_of_none : (xs : List ℕ) → xs ≡ [] → 0 ≡ slice_index xs 0
first_of_none xs none = ap (λ (ys : List ℕ). slice_index ys 0) (sym none)

pub telling_ends : (m : HandleMap) (lines : List (List ℕ)) (t : Contents) (x : Bits) (at limit extent : ℕ) → Telling m lines t x at limit → extent ≡ (node_at t.nodes at).extent → limit ≤ extent → 0 ≡ slice_index (false_probes m (extents_in lines t) x) 0
unfolding Telling false_probes
telling_ends m lines t x at limit extent h same over =
    let es = extents_in lines t in
    let deep = depth_is t.nodes at extent same in
    first_of_none (filter (is_false_probe m es x) (true_search_of es x).asked)
    (searches_done (answers_of (handle_node (handles_of es)) x) (lens_in t.nodes) (is_false_probe m es x) _ at limit h (omega arith)).1

pub telling_finds : (m : HandleMap) (lines : List (List ℕ)) (t : Contents) (x : Bits) (at limit extent f : ℕ) → Telling m lines t x at limit → extent ≡ (node_at t.nodes at).extent → extent < limit → f ≡ fattest extent limit → is_false_probe m (extents_in lines t) x f ≡ true → f ≡ slice_index (false_probes m (extents_in lines t) x) 0
unfolding Telling false_probes
telling_finds m lines t x at limit extent f h same more size misleads =
    let es = extents_in lines t in
    let deep = depth_is t.nodes at extent same in
    let asks : f ≡ fattest (slice_index (lens_in t.nodes) at) limit = size ∙ ap (λ a. fattest a limit) (sym deep) in
    asks ∙ searches_found (answers_of (handle_node (handles_of es)) x) (lens_in t.nodes) (is_false_probe m es x) _ at limit h (omega arith) (ap (is_false_probe m es x) (sym asks) ∙ misleads)

pub handle_no_probe : (m : HandleMap) (es : List Bits) (x : Bits) (f v : ℕ) → handle_node (handles_of es) (take f x) ≡ Some v → is_false_probe m es x f ≡ false
unfolding is_false_probe
handle_no_probe m es x f v e = rw e refl

pub other_probe : (m : HandleMap) (lines : List (List ℕ)) (t : Contents) (x : Bits) (f : ℕ) (answer : Option ℕ) → IsTrieOf lines t → f ≤ length x → handle_node (handles_of (extents_in lines t)) (take f x) ≡ None → answer ≡ probed_node m (take f x) → is_false_probe m (extents_in lines t) x f ≡ is_some (reached (lens_in t.nodes) f answer)
unfolding is_false_probe
other_probe m lines t x f answer built inside none answers =
    let lens = lens_same lines t built in
    let same : node_for (answers_of (probed_node m) x) (map length (extents_in lines t)) f ≡ reached (lens_in t.nodes) f answer =
    ap (λ l. node_for (answers_of (probed_node m) x) l f) (sym lens) ∙ ap (reached (lens_in t.nodes) f) (answer_at (probed_node m) x f inside ∙ sym answers)
    in
    rw none (ap is_some same)

pub telling_onward : (m : HandleMap) (lines : List (List ℕ)) (t : Contents) (x : Bits) (at limit extent f : ℕ) (answer : Option ℕ) (w v : ℕ) → Telling m lines t x at limit → Asks t.nodes x at limit extent f → answer ≡ handle_node (handles_of (extents_in lines t)) (take f x) → answer ≡ Some w → reached (lens_in t.nodes) f answer ≡ Some v → Telling m lines t x v limit
unfolding Telling
telling_onward m lines t x at limit extent f answer w v h asks answers some leads =
    let es = extents_in lines t in
    stage_onward (handle_node (handles_of es)) (lens_in t.nodes) x (is_false_probe m es x) _ at limit extent f answer v h (depth_is t.nodes at extent asks.deep) asks.more asks.inside asks.size answers leads (handle_no_probe m es x f w (sym answers ∙ some))

pub telling_shorter : (m : HandleMap) (lines : List (List ℕ)) (t : Contents) (x : Bits) (at limit extent f : ℕ) (answer : Option ℕ) → Telling m lines t x at limit → Asks t.nodes x at limit extent f → answer ≡ handle_node (handles_of (extents_in lines t)) (take f x) → reached (lens_in t.nodes) f answer ≡ None → is_false_probe m (extents_in lines t) x f ≡ false → Telling m lines t x at (f - 1)
unfolding Telling
telling_shorter m lines t x at limit extent f answer h asks answers leads no' =
    let es = extents_in lines t in
    stage_shorter (handle_node (handles_of es)) (lens_in t.nodes) x (is_false_probe m es x) _ at limit extent f answer h (depth_is t.nodes at extent asks.deep) asks.more asks.inside asks.size answers leads no'

pub none_reached : (lens : List ℕ) (f : ℕ) (answer : Option ℕ) → answer ≡ None → reached lens f answer ≡ None
none_reached lens f answer none = ap (reached lens f) none
