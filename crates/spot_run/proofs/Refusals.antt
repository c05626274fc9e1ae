-- Of a tree: a check's code, and what loading says of it.
use Rattle.std.proofs.Common.{◌≡◌, ◌∙◌, ℕ, zero, suc, ◌≤◌, List, [], ◌∷◌, length, Option, Some, None, Result, Ok, Err, refl, sym, subst}
use Rattle.spot_terms.specs.declared.limits.TheConstants.{MOST_BYTES}
use Rattle.std.specs.Prelude.{IfOk, IfErr}
use Rattle.std.specs.List.{AllByRecursion}
use Rattle.spot_terms.specs.Lists.{At}
use Rattle.spot_terms.proofs.ListLemmas.{all_included}
use Rattle.spot_terms.specs.declared.scenario.Scenario.{Scenario}
use Rattle.spot_terms.specs.declared.status.Code.{Code}
use Rattle.spot_terms.specs.declared.status.Code.TheVariants.{NotJson, NotTree}
use Rattle.spot_terms.specs.declared.status.Status.{Status}
use Rattle.spot_terms.specs.declared.status.Status.TheVariants.{Refused, Memory}
use Rattle.spot_tree.proofs.Readings.{one_tree}
use Rattle.spot_claims.specs.Tree.{Element, IsTreeOf}
use Rattle.spot_claims.specs.Scenario.{IsScenario}
use Rattle.spot_claims.specs.Profile.{Line, Check, code_of, profile, IsAccepted, IsRefused}
use Rattle.spot_claims.specs.Answers.{IsOfCheck}
use Rattle.std.specs.declared.vec.Vec.{Vec}
use Rattle.std.specs.declared.alloc.Global.{Global}
use Rattle.spot_io.specs.Reads.{ReadsAll}
use Rattle.spot_run.specs.Loads.{IsReadWhole, Loads, IsLoadFault, HasNone}

-- ---- the codes of checks

abbrev pub HasCodes : Line → Type 0
HasCodes row = AllByRecursion (λ check. IsOfCheck (code_of check)) row.checks

codes_of_profile : AllByRecursion HasCodes profile
codes_of_profile = ((tt, (tt, (tt, (tt, (tt, (tt, tt)))))), ((tt, (tt, (tt, (tt, tt)))), ((tt, tt), ((tt, (tt, (tt, (tt, tt)))), ((tt, tt), ((tt, tt), ((tt, tt), ((tt, tt), ((tt, tt), ((tt, tt), ((tt, tt), ((tt, tt), ((tt, tt), ((tt, tt), ((tt, tt), ((tt, tt), ((tt, (tt, (tt, tt))), ((tt, (tt, tt)), ((tt, (tt, tt)), ((tt, (tt, tt)), ((tt, (tt, tt)), ((tt, (tt, tt)), ((tt, (tt, tt)), ((tt, (tt, tt)), tt))))))))))))))))))))))))

at_all : (P : Check → Type 0) (checks : List Check) (j : ℕ) (check : Check) → AllByRecursion P checks → At checks j check → P check
at_all P [] j check all here = absurd here
at_all P (c ∷ checks) zero check all here = subst P (sym here) all.0
at_all P (c ∷ checks) (suc j) check all here = at_all P checks j check all.1 here

pub refused_code : (tree : List Element) (place : ℕ) (code : Code) → IsRefused tree place code → IsOfCheck code
refused_code tree place code refused =
    let fails = refused.fails in
    subst IsOfCheck (sym fails.code_is) (at_all (λ check. IsOfCheck (code_of check)) fails.row.checks refused.number fails.check (all_included HasCodes profile fails.row codes_of_profile fails.listed) fails.at)

none_of : (tree : List Element) (place : ℕ) (code : Code) → IsOfCheck code → IsRefused tree place code → HasNone tree (Refused code place)
none_of tree place NotJson k h = absurd k
none_of tree place NotTree k h = absurd k
none_of tree place code k h = (k, h)

pub refused_none : (tree : List Element) (place : ℕ) (code : Code) → IsRefused tree place code → HasNone tree (Refused code place)
refused_none tree place code h = none_of tree place code (refused_code tree place code h) h

-- an accepted tree has a scenario, but where memory is wanted
only_memory : (tree : List Element) (status : Status) → IsAccepted tree → HasNone tree status → status ≡ Memory
only_memory tree Memory accepted h = refl
only_memory tree (Refused NotJson place) accepted h = absurd h
only_memory tree (Refused NotTree place) accepted h = absurd h
only_memory tree (Refused code place) accepted h = absurd (accepted place h.1.number code h.1.fails)
only_memory tree status accepted h = absurd h

pub accepted_memory : (bytes : List ℕ) (tree other : List Element) (result : Result Scenario Status) → IsTreeOf bytes tree → IsAccepted tree → IsTreeOf bytes other → IfErr result (λ status. HasNone other status) → IfErr result (λ status. status ≡ Memory)
accepted_memory bytes tree other (Ok s) tree_is accepted other_is h = tt
accepted_memory bytes tree other (Err status) tree_is accepted other_is h = only_memory other status (subst IsAccepted (one_tree bytes tree other tree_is other_is) accepted) h

-- ---- loading

pub loads_none : (bytes : List ℕ) (left : Option (List ℕ)) (tree : List Element) (status : Status) → IsReadWhole bytes left → IsTreeOf bytes tree → HasNone tree status → Loads bytes left (Err status)
loads_none bytes left tree Memory whole tree_is h = tt
loads_none bytes left tree (Refused NotJson place) whole tree_is h = absurd h
loads_none bytes left tree (Refused NotTree place) whole tree_is h = absurd h
loads_none bytes left tree (Refused code place) whole tree_is h = (whole, (tree, tree_is, h.1))
loads_none bytes left tree status whole tree_is h = absurd h

pub none_fault : (tree : List Element) (status : Status) → HasNone tree status → IsLoadFault status
none_fault tree Memory h = tt
none_fault tree (Refused NotJson place) h = absurd h
none_fault tree (Refused NotTree place) h = absurd h
none_fault tree (Refused code place) h = h.0
none_fault tree status h = absurd h

pub loads_all : (bytes : List ℕ) (left : Option (List ℕ)) (tree : List Element) (result : Result Scenario Status) → IsReadWhole bytes left → IsTreeOf bytes tree → IfOk result (λ s. IsScenario tree s) → IfErr result (λ status. HasNone tree status) → Loads bytes left result
loads_all bytes left tree (Ok s) whole tree_is scenario none = (whole, (tree, tree_is, scenario))
loads_all bytes left tree (Err status) whole tree_is scenario none = loads_none bytes left tree status whole tree_is none

-- the told bytes were read whole, and are those of the tree
pub read_whole : (told left : Option (List ℕ)) (v : Vec ℕ Global) (bytes : List ℕ) → told ≡ Some bytes → length v.items ≤ MOST_BYTES → ReadsAll told left (Ok v) → IsReadWhole bytes left
read_whole None left v bytes e few reads = cc
read_whole (Some all) left v bytes e few reads = let same : all ≡ bytes = cc in (subst (λ (b : List ℕ). length b ≤ MOST_BYTES) (reads.0 ∙ same) few, reads.1)

pub read_bytes : (told left : Option (List ℕ)) (v : Vec ℕ Global) (bytes : List ℕ) (tree : List Element) → told ≡ Some bytes → ReadsAll told left (Ok v) → IsTreeOf v.items tree → IsTreeOf bytes tree
read_bytes None left v bytes tree e reads is = cc
read_bytes (Some all) left v bytes tree e reads is = let same : all ≡ bytes = cc in subst (λ (b : List ℕ). IsTreeOf b tree) (reads.0 ∙ same) is
