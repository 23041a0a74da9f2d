-- Thin calls over a job that is lent:   fn f(rec: &mut OpenJob, p..) -> u32 { let h = g(p..); *rec = h.job; h.number }   and the same with g(*rec, p..).
-- g is covered. A p is an f64, a `&[T]`, a `&mut [T]` or a `&mut T`, and each reference has a lifetime of its own. f meets its contract, where its `ensures` is g's, with what f returns for `r.number` and what it leaves in rec for `r.job`.
--     Par, lent        a parameter, as a proof of such an f lists them, with `job` first where g takes it;  rec as one.        spells, tells, vals      the machine values of a list of them, and that these can be no others
--     makes, steps     f's MIR runs as its contract says, by g's contract: where g takes no job, and where it takes it first.        stands       f's theorem from g's
--     goes             the walk. The borrow of the job is opened, the job is copied out where g takes it, each `&mut` is lent again to g, for good, g is called, the job that came back is copied and stored, and the borrow is closed there.
--                      What the p.. own and what is said of them at exit is never taken apart: g asks for and leaves what f has and leaves
--     thin             f's MIR.        came     its last local, into which the job that came back is copied before it is stored.        temps, kept, lending, operands, handed       the locals that hold the job and what is lent again, their values, the code that fills them, the operands of the call and their values.        lends, hands      that code runs;  the operands are read
--     held, env_of, locals_of        a row of locals, with a block for each (`Blocks`), in the context, filled as far as there are values, in the environment and in the MIR.        alloced, passed, freed       it is allocated, takes the arguments, is freed
--     Spots, Ins       where the locals of a row stand in an environment;  that the cell of each lies within an item (`types.Part`).        found        a place that begins at such a local.        past, beyond     a local behind a row
-- Assumes `Logic`.
use mathlib.Core.Path.{◌≡◌, refl, sym, ap, subst}
use mathlib.Core.List.{List, [], ◌∷◌}
use Prim.Native.Nat.{ℕ, zero, suc}
use lib.ListN.{get_or, length}
use seplogic.Ra.Ura.{Ura}
use base.Fraction.{full_share}
use mir.Syntax.{Callee, named, erased, mut, w32, Ty, ty_int, ty_enum, ttnil, ty_ref, tcons, tnil, Step as PStep, deref, field, place, Opd as Operand, copy, rv_opd, addr_of, aggregate, Body, seq, assign, call, return, Local, local, value_local, Fn}
use mir.Val.{Val, vint, vptr}
use base.Logic.{SProp, ent, emp, sep, wand, all, ex, id⊢, via, fst∗, snd∗, all_e, apply∗}
use base.Fml.{Lft, Fml, ftrue, fsep, fat, froom, fdies, flft, fres}
use prog.Memory.{size}
use prog.Model.{Model}
use prog.Routine.{Routine, Env as Routines}
use prog.Wp.{Env, Calls, Loops, Spot, walk, WpFn, Tables, Closed}
use types.Logic.{Logic, sem}
use sound.WpLaws.{fm_of}
use contract.Lifetimes.{Lfts, Shares, toks, AllOutlive}
use contract.Running.{Running, tables, tables_of}
use types.Kit.{Go, Goal, Post, runs, allocs, passes, frees, Sq, Item, ‵, raw, mean, ⋆, some, later, ◌⊛◌, ◌$◌, ◌∵◌, !, qed, by, move, group, drop, use1, use2, pick, rewrite, split, split3, join, fsplit, fsplit3, fjoin, await, updating, now as at_once, show, assume, frame, each, done}
use types.Run.{Walks, Finds, Opds, look, look_raw, store_raw, init, forget, stop, hop, fld, from, load, addr, of_opd, and_then, no_more, assigns, land, returns, enter, alloc1, alloc0, params1, pass1, pass0, free1, free0}
use types.Part.{Part, whole, sub, look_in, agg}
use denote.Exit.{yes, Last, left}
use denote.RattleType.{RattleType, Denots, Valss, mirs, flat, owns}
use denote.Laws.{Typed, Is, shows, Are, Ises, Spells, valss, Tellss, all_Typed}
use denote.Memory.{lone, pointee, cell_at}
use denote.Plain.{uint_Makes, uint_Lawful}
use denote.Builtin.{One, u32}
use denote.Ref.{NamedLft, MutBor, MutRef, mut_vals}
use denote.Slice.{slice_ty, slice_val}
use denote.Signature.{Signature, types_at}
use denote.Steps.{only, opens, closes, facts, owned, nothing, said}
use denote.Struct.Field as fields
use denote.Struct.Steps.{spelt}
use denote.Struct.Laws as LL
use denote.Triple.Call.{calls_from}
use denote.Triple.Entry.{Args, on_entry}
use denote.Triple.Spec.{Spec, triple_of, Meets}
use denote.Triple.Table.{entered, cited}
use Rattle.pieces.specs.declared.OpenJob.{OpenJob}
use Rattle.pieces.specs.contracts.OpenJob as T
use Rattle.pieces.proofs.OpenJob.TheLaws as T'
use Rattle.blidrosk_draw.specs.declared.Handed.{Handed}
use Rattle.blidrosk_draw.specs.contracts.Handed as U
use Rattle.blidrosk_draw.proofs.Handed.TheLaws as U'

-- ---- a row of locals
abbrev Blocks : List Ty → Type 0
Blocks [] = Unit {0}
Blocks (τ ∷ τs) = ℕ × Blocks τs

abbrev env_of : (τs : List Ty) → Blocks τs → List (Ty × ℕ) → List (Ty × ℕ)
env_of [] bs E = E
env_of (τ ∷ τs) bs E = (τ, bs.0) ∷ env_of τs bs.1 E

abbrev locals_of : List Ty → List Local → List Local
locals_of [] ls = ls
locals_of (τ ∷ τs) ls = local τ value_local ∷ locals_of τs ls

abbrev held : {M : Type 1} {𝓤 : Ura M} (τs : List Ty) → Blocks τs → List Val → Item 𝓤
held [] bs vs = ‵ ftrue
held (τ ∷ τs) bs [] = ‵ (froom τ bs.0 0) ⊛ ‵ (fdies τ bs.0) ⊛ held τs bs.1 []
held (τ ∷ τs) bs (v ∷ vs) = ‵ (fat full_share τ bs.0 0 v) ⊛ ‵ (fdies τ bs.0) ⊛ held τs bs.1 vs

abbrev At : List (Ty × ℕ) → ℕ → Ty → ℕ → Type 0
At E i τ b = get_or E i (ty_enum [] ttnil, zero) ≡ (τ, b)

abbrev Spots : List (Ty × ℕ) → ℕ → (τs : List Ty) → Blocks τs → Type 0
Spots E i [] bs = Unit {0}
Spots E i (τ ∷ τs) bs = At E i τ bs.0 × Spots E (suc i) τs bs.1

later_on : (E : List (Ty × ℕ)) (e : Ty × ℕ) (i : ℕ) (τs : List Ty) (bs : Blocks τs) → Spots E i τs bs → Spots (e ∷ E) (suc i) τs bs
later_on E e i [] bs s = tt
later_on E e i (τ ∷ τs) bs s = (s.0, later_on E e (suc i) τs bs.1 s.1)

-- behind another row
spots : (σs : List Ty) (cs : Blocks σs) (τs : List Ty) (bs : Blocks τs) (E : List (Ty × ℕ)) → Spots (env_of σs cs (env_of τs bs E)) (length σs) τs bs
spots [] cs [] bs E = tt
spots [] cs (τ ∷ τs) bs E = (refl, later_on _ _ 0 τs bs.1 (spots [] tt τs bs.1 E))
spots (σ ∷ σs) cs τs bs E = later_on _ _ (length σs) τs bs (spots σs cs.1 τs bs E)

module _ {M : Type 1} {𝓤 : Ura M} (𝓛 : Logic 𝓤) where
  open 𝓛 use {H}

  alloced : (τs : List Ty) {Γ : List (Item 𝓤)} {ls : List Local} {Kt : Env 𝓤 H → Goal 𝓤 H} → ((bs : Blocks τs) → Sq 𝓛 (held τs bs [] ∷ Γ) (allocs ls (λ E. Kt (env_of τs bs E)))) → Sq 𝓛 Γ (allocs (locals_of τs ls) Kt)
  alloced [] k = nothing ! $ k tt
  alloced (τ ∷ τs) k = alloc1 ! (λ b. alloced τs (λ bs. move ! (1 ∷ 2 ∷ 0 ∷ []) $ group ! 3 $ k (b, bs)))

  passed : (τs : List Ty) (bs : Blocks τs) (vs : List Val) → Typed τs vs → {Γ : List (Item 𝓤)} {E : Env 𝓤 H} {G : Goal 𝓤 H} → Sq 𝓛 (held τs bs vs ∷ Γ) (passes E [] G) → Sq 𝓛 (held τs bs [] ∷ Γ) (passes (env_of τs bs E) vs G)
  passed [] bs [] w s = s
  passed [] bs (v ∷ vs) w s = absurd w
  passed (τ ∷ τs) bs [] w s = absurd w
  passed (τ ∷ τs) bs (v ∷ vs) w s = split3 ! $ pass1 ! (init ! 0 refl w.0) $ move ! (2 ∷ []) $ passed τs bs.1 vs w.1 (move ! (1 ∷ 2 ∷ 0 ∷ []) $ group ! 3 $ s)

  freed : (τs : List Ty) (bs : Blocks τs) (vs : List Val) → {Γ : List (Item 𝓤)} {E : Env 𝓤 H} {G : Goal 𝓤 H} → Sq 𝓛 Γ (frees E G) → Sq 𝓛 (held τs bs vs ∷ Γ) (frees (env_of τs bs E) G)
  freed [] bs vs s = drop ! $ s
  freed (τ ∷ τs) bs [] s = split3 ! $ free1 ! $ freed τs bs.1 [] s
  freed (τ ∷ τs) bs (v ∷ vs) s = split3 ! $ forget ! 0 refl $ free1 ! $ freed τs bs.1 vs s

  found : {Γ : List (Item 𝓤)} {E : Env 𝓤 H} {τ : Ty} {b i : ℕ} {st : List PStep} {sp : Spot 𝓤 H} → At E i τ b → Walks (Go {0}) 𝓛 Γ E (τ, b, 0) st sp → Finds (Go {0}) 𝓛 Γ E (place i st) sp
  found {Γ} {E} {st = st} e w = record { go = λ Kt h. subst (λ (x : Ty × ℕ). ent 𝓤 (⋆ 𝓛 Γ) (walk 𝓤 H E (x.0, x.1, 0) st Kt)) (sym e) (w.go Kt h) }

  -- a cell that lies within i lies within k, which is i and j
  within : {i k : Item 𝓤} (j : Item 𝓤) {τ : Ty} {b : ℕ} {v : Val} {back back' : Val → Item 𝓤} → ent 𝓤 (mean 𝓛 k) (mean 𝓛 (i ⊛ j)) → ((u : Val) → ent 𝓤 (mean 𝓛 (back u ⊛ j)) (mean 𝓛 (back' u))) → back' v ≡ k
      → Part (Go {0}) 𝓛 i full_share τ b 0 v back → Part (Go {0}) 𝓛 k full_share τ b 0 v back'
  within {i} {k} j {τ} {b} {v} {back} {back'} out into e p = record {
    out = qed 𝓛 (k ∷ []) ∵ use1 𝓛 (i ⊛ j) out $ split ! $ use1 𝓛 (‵ (fat full_share τ b 0 v) ⊛ raw (all 𝓤 Back)) p.out $ split ! $ frame ! $
        each ! (λ (u : Val). wand 𝓤 (H.at full_share τ b 0 u) (mean 𝓛 (back' u))) (λ u. assume {P = mean 𝓛 (back' u)} ! (‵ (fat full_share τ b 0 u)) $
        move ! (1 ∷ []) $ use1 𝓛 (raw (Back u)) (all_e 𝓤 Back u) $ move ! (1 ∷ 0 ∷ []) $ use2 𝓛 (back u) (apply∗ 𝓤 (H.at full_share τ b 0 u) (mean 𝓛 (back u))) $ by ! (into u));
    same = e;
  }
    where
      Back : Val → SProp 𝓤
      Back u = wand 𝓤 (H.at full_share τ b 0 u) (mean 𝓛 (back u))

  under : (i j : Item 𝓤) {k : Item 𝓤} {τ : Ty} {b : ℕ} {v : Val} {back : Val → Item 𝓤} → Part (Go {0}) 𝓛 k full_share τ b 0 v back → Part (Go {0}) 𝓛 (i ⊛ j ⊛ k) full_share τ b 0 v (λ u. i ⊛ j ⊛ back u)
  under i j {k} {back = back} p = within (i ⊛ j) (qed 𝓛 ((i ⊛ j ⊛ k) ∷ []) ∵ split3 ! $ move ! (2 ∷ []) $ done !) (λ u. qed 𝓛 ((back u ⊛ i ⊛ j) ∷ []) ∵ split3 ! $ move ! (1 ∷ 2 ∷ []) $ done !) (ap (λ (n : Item 𝓤). i ⊛ j ⊛ n) p.same) p

  abbrev Ins : Item 𝓤 → (τs : List Ty) → Blocks τs → List Val → Type 2
  Ins i [] bs vs = Unit {2}
  Ins i (τ ∷ τs) bs [] = Unit {2}
  Ins i (τ ∷ τs) bs (v ∷ vs) = ((back : Val → Item 𝓤) × Part (Go {0}) 𝓛 i full_share τ bs.0 0 v back) × Ins i τs bs.1 vs

  deeper : (i j k : Item 𝓤) (τs : List Ty) (bs : Blocks τs) (vs : List Val) → Ins k τs bs vs → Ins (i ⊛ j ⊛ k) τs bs vs
  deeper i j k [] bs vs is = tt
  deeper i j k (τ ∷ τs) bs [] is = tt
  deeper i j k (τ ∷ τs) bs (v ∷ vs) is = ((_, under i j is.0.1), deeper i j k τs bs.1 vs is.1)

  ins : (τs : List Ty) (bs : Blocks τs) (vs : List Val) → Ins (held τs bs vs) τs bs vs
  ins [] bs vs = tt
  ins (τ ∷ τs) bs [] = tt
  ins (τ ∷ τs) bs (v ∷ vs) = (((λ u. ‵ (fat full_share τ bs.0 0 u) ⊛ ‵ (fdies τ bs.0) ⊛ held τs bs.1 vs), within (‵ (fdies τ bs.0) ⊛ held τs bs.1 vs) (id⊢ 𝓤 _) (λ u. id⊢ 𝓤 _) refl (whole !)), deeper _ _ (held τs bs.1 vs) τs bs.1 vs (ins τs bs.1 vs))

-- ---- the parameters
pub data Par : Type 2 where
  job : Par  -- the job by value, which g takes and f does not
  float : Par  -- an f64
  reads : NamedLft → (R : RattleType) → One R.mir → Par  -- a `&[R]`
  writes : NamedLft → (R : RattleType) → One R.mir → Par  -- a `&mut [R]`
  refers : NamedLft → (R : RattleType) → One R.mir → Par  -- a `&mut R`

abbrev fields_of : List Par → List fields.Field
fields_of [] = []
fields_of (job ∷ ps) = fields_of ps
fields_of (float ∷ ps) = fields.f64-field ∷ fields_of ps
fields_of (reads κ R o ∷ ps) = fields.shr_slice_field κ R o ∷ fields_of ps
fields_of (writes κ R o ∷ ps) = fields.mut_slice_field κ R o ∷ fields_of ps
fields_of (refers κ R o ∷ ps) = fields.mut_ref_field κ R o ∷ fields_of ps

abbrev laws_of : (ps : List Par) → LL.Lawss (fields_of ps)
laws_of [] = tt
laws_of (job ∷ ps) = laws_of ps
laws_of (float ∷ ps) = (LL.f64-laws, laws_of ps)
laws_of (reads κ R o ∷ ps) = (LL.shr_slice_laws κ R o, laws_of ps)
laws_of (writes κ R o ∷ ps) = (LL.mut_slice_laws κ R o, laws_of ps)
laws_of (refers κ R o ∷ ps) = (LL.mut_ref_laws κ R o, laws_of ps)

abbrev rows : List Par → List RattleType
rows ps = fields.rows (fields_of ps)

abbrev tys : List Par → List Ty
tys ps = mirs (rows ps)

abbrev pub spells : (ps : List Par) → Spells (rows ps)
spells ps = LL.spells (fields_of ps) (laws_of ps)

abbrev pub tells : (ps : List Par) → Tellss (rows ps) (Ises (rows ps)) (spells ps)
tells ps = LL.tellss (fields_of ps) (laws_of ps)

abbrev pub vals : (ps : List Par) (a : Denots (rows ps)) → Valss (rows ps)
vals ps a = valss (rows ps) (spells ps) a

abbrev words : (ps : List Par) → Denots (rows ps) → List Val
words ps a = flat (rows ps) (vals ps a)

abbrev pub val : OpenJob → Val
val = LL.val T.the_type T'.the_laws

abbrev handed : OpenJob → (ps : List Par) → Denots (rows ps) → List Val
handed h [] a = []
handed h (job ∷ ps) a = val h ∷ handed h ps a
handed h (float ∷ ps) a = (LL.f64-laws).val a.0 ∷ handed h ps a.1
handed h (reads κ R o ∷ ps) a = slice_val a.0.ref_ptr (length a.0.now) ∷ handed h ps a.1
handed h (writes κ R o ∷ ps) a = slice_val a.0.ref_ptr (length a.0.now) ∷ handed h ps a.1
handed h (refers κ R o ∷ ps) a = vptr a.0.ref_ptr.0 a.0.ref_ptr.1 ∷ handed h ps a.1

abbrev again : RattleType → Ty
again R = ty_ref erased mut (pointee R.written)

abbrev temps : List Par → List Ty
temps [] = []
temps (job ∷ ps) = T'.mir ∷ temps ps
temps (float ∷ ps) = temps ps
temps (reads κ R o ∷ ps) = temps ps
temps (writes κ R o ∷ ps) = again R ∷ slice_ty (again R) ∷ temps ps
temps (refers κ R o ∷ ps) = again R ∷ temps ps

abbrev kept : OpenJob → (ps : List Par) → Denots (rows ps) → List Val
kept h [] a = []
kept h (job ∷ ps) a = val h ∷ kept h ps a
kept h (float ∷ ps) a = kept h ps a.1
kept h (reads κ R o ∷ ps) a = kept h ps a.1
kept h (writes κ R o ∷ ps) a = vptr a.0.ref_ptr.0 a.0.ref_ptr.1 ∷ slice_val a.0.ref_ptr (length a.0.now) ∷ kept h ps a.1
kept h (refers κ R o ∷ ps) a = vptr a.0.ref_ptr.0 a.0.ref_ptr.1 ∷ kept h ps a.1

-- the next parameter is the local i, and the next of `temps` the local j
abbrev lending : List Par → ℕ → ℕ → Body → Body
lending [] i j b = b
lending (job ∷ ps) i j b = seq (assign (place j []) (rv_opd (copy (place 1 (deref T'.mir ∷ []))))) (lending ps i (suc j) b)
lending (float ∷ ps) i j b = lending ps (suc i) j b
lending (reads κ R o ∷ ps) i j b = lending ps (suc i) j b
lending (writes κ R o ∷ ps) i j b = seq (assign (place j []) (addr_of (place i (field 0 ∷ deref (lone R.mir) ∷ []))))
    (seq (assign (place (suc j) []) (aggregate (copy (place j []) ∷ copy (place i (field 1 ∷ [])) ∷ []))) (lending ps (suc i) (suc (suc j)) b))
lending (refers κ R o ∷ ps) i j b = seq (assign (place j []) (addr_of (place i (deref (lone R.mir) ∷ [])))) (lending ps (suc i) (suc j) b)

abbrev operands : List Par → ℕ → ℕ → List Operand
operands [] i j = []
operands (job ∷ ps) i j = copy (place j []) ∷ operands ps i (suc j)
operands (float ∷ ps) i j = copy (place i []) ∷ operands ps (suc i) j
operands (reads κ R o ∷ ps) i j = copy (place i []) ∷ operands ps (suc i) j
operands (writes κ R o ∷ ps) i j = copy (place (suc j) []) ∷ operands ps (suc i) (suc (suc j))
operands (refers κ R o ∷ ps) i j = copy (place j []) ∷ operands ps (suc i) (suc j)

abbrev rec_ty : Ty
rec_ty = ty_ref (named 0) mut (pointee (T.the_row).written)

-- rec, as a parameter
abbrev pub lent : Lft → Par
lent κ = refers (record { mir = named 0; lft = κ }) T.the_row tt

-- _0, rec and the parameters;  g's result and `temps`
abbrev outer : List Par → List Ty
outer ps = ty_int w32 ∷ rec_ty ∷ tys ps

abbrev inner : List Par → List Ty
inner ps = U'.mir ∷ temps ps

-- the i-th local behind a row
abbrev past : List Ty → ℕ → ℕ
past [] i = i
past (τ ∷ τs) i = suc (past τs i)

-- the last local, into which the job that came back is copied before it is stored
abbrev came : List Par → ℕ
came ps = past (outer ps) (past (inner ps) 0)

abbrev thin : ℕ → Callee → List Par → Fn
thin n g ps =
    let r : ℕ = length (outer ps) in
    record {
      lifetimes = n;
      outlives = [];
      ty_params = [];
      givens = 0;
      params = suc (length (rows ps));
      locals = locals_of (outer ps) (locals_of (inner ps) (local T'.mir value_local ∷ []));
      body = lending ps 2 (suc r) (seq (call g (operands ps 2 (suc r)) (place r [])) (seq (assign (place (came ps) []) (rv_opd (copy (place r (field 0 ∷ [])))))
          (seq (assign (place 1 (deref T'.mir ∷ [])) (rv_opd (copy (place (came ps) [])))) (seq (assign (place 0 []) (rv_opd (copy (place r (field 1 ∷ []))))) return))));
    }

beyond : (σs : List Ty) (cs : Blocks σs) (E : List (Ty × ℕ)) (i : ℕ) (τ : Ty) (b : ℕ) → At E i τ b → At (env_of σs cs E) (past σs i) τ b
beyond [] cs E i τ b e = e
beyond (σ ∷ σs) cs E i τ b e = beyond σs cs.1 E i τ b e

module _ {M : Type 1} {𝓤 : Ura M} (𝓛 : Logic 𝓤) {E : Env 𝓤 𝓛.H} (h : OpenJob) where
  open 𝓛 use {H}

  module _ (was : Is T.the_row h (val h ∷ [])) {b₀ o₀ l : ℕ} (e : At E 1 rec_ty l) {C : Calls 𝓤 H} {Λ : Loops 𝓤 H} {q : Post 𝓤 H} {b : Body} {P : Item 𝓤} where
    lends : (ps : List Par) (i j : ℕ) (a : Denots (rows ps)) → Are (rows ps) (Ises (rows ps)) a (vals ps a) → (bs : Blocks (tys ps)) (ts : Blocks (temps ps)) → Spots E i (tys ps) bs → Spots E j (temps ps) ts → Ins 𝓛 P (tys ps) bs (words ps a)
        → {Γ : List (Item 𝓤)} → Sq 𝓛 (P ∷ ‵ (cell_at full_share (T.the_row).mir (val h ∷ []) b₀ o₀) ∷ ‵ (fat full_share rec_ty l 0 (vptr b₀ o₀)) ∷ held (temps ps) ts (kept h ps a) ∷ Γ) (runs C Λ E b q)
        → Sq 𝓛 (P ∷ ‵ (cell_at full_share (T.the_row).mir (val h ∷ []) b₀ o₀) ∷ ‵ (fat full_share rec_ty l 0 (vptr b₀ o₀)) ∷ held (temps ps) ts [] ∷ Γ) (runs C Λ E (lending ps i j b) q)
    lends [] i j a are bs ts s z is k = k
    lends (job ∷ ps) i j a are bs ts s z is k =
        move ! (3 ∷ []) $ split3 ! $ assigns ! (of_opd ! (load ! (found 𝓛 e (hop ! (look ! 5 refl) (stop !))) (look_raw ! 4 refl))) (found 𝓛 z.0 (stop !)) (init ! 0 refl ((LL.lawful T.the_type T'.the_laws 𝓛).typed h _ was).0) $
        move ! (3 ∷ 4 ∷ 5 ∷ 2 ∷ []) $ lends ps i (suc j) a are bs ts.1 s z.1 is (move ! (4 ∷ 5 ∷ 3 ∷ []) $ group ! 3 $ move ! (1 ∷ 2 ∷ 3 ∷ []) $ k)
    lends (float ∷ ps) i j a are bs ts s z is k = lends ps (suc i) j a.1 are.1 bs.1 ts s.1 z is.1 k
    lends (reads κ R o ∷ ps) i j a are bs ts s z is k = lends ps (suc i) j a.1 are.1 bs.1 ts s.1 z is.1 k
    lends (writes κ R o ∷ ps) i j a are bs ts s z is k =
        move ! (3 ∷ []) $ split3 ! $ move ! (2 ∷ []) $ split3 ! $
        -- [room for the slice; ..; the rest of `temps`; room for its pointer; ..; the parameters; the struct's cell; rec]
        assigns ! (addr ! (found 𝓛 s.0 (fld ! refl (hop ! (look_in ! 5 (sub ! 0 refl is.0.1)) (stop !))))) (found 𝓛 z.0 (stop !)) (init ! 3 refl (tt, tt)) $
        assigns ! (agg ! (and_then ! (load ! (found 𝓛 z.0 (stop !)) (look ! 3 refl)) (and_then ! (load ! (found 𝓛 s.0 (fld ! refl (stop !))) (look_in ! 5 (sub ! 1 refl is.0.1))) (no_more !)))) (found 𝓛 z.1.0 (stop !)) (init ! 0 refl (tt, (tt, (record { fits = are.0.0.1.0 }, tt)))) $
        move ! (5 ∷ 6 ∷ 7 ∷ 2 ∷ []) $ lends ps (suc i) (suc (suc j)) a.1 are.1 bs.1 ts.1.1 s.1 z.1.1 is.1 (move ! (6 ∷ 7 ∷ 4 ∷ 5 ∷ 3 ∷ []) $ group ! 5 $ move ! (1 ∷ 2 ∷ 3 ∷ []) $ k)
    lends (refers κ R o ∷ ps) i j a are bs ts s z is k =
        move ! (3 ∷ []) $ split3 ! $ assigns ! (addr ! (found 𝓛 s.0 (hop ! (look_in ! 3 is.0.1) (stop !)))) (found 𝓛 z.0 (stop !)) (init ! 0 refl (tt, tt)) $
        move ! (3 ∷ 4 ∷ 5 ∷ 2 ∷ []) $ lends ps (suc i) (suc j) a.1 are.1 bs.1 ts.1 s.1 z.1 is.1 (move ! (4 ∷ 5 ∷ 3 ∷ []) $ group ! 3 $ move ! (1 ∷ 2 ∷ 3 ∷ []) $ k)

  hands : {I P D c₁ c₂ : Item 𝓤} {Γ : List (Item 𝓤)} (ps : List Par) (i j : ℕ) (a : Denots (rows ps)) (bs : Blocks (tys ps)) (ts : Blocks (temps ps)) → Spots E i (tys ps) bs → Spots E j (temps ps) ts → Ins 𝓛 P (tys ps) bs (words ps a) → Ins 𝓛 D (temps ps) ts (kept h ps a)
      → Opds (Go {0}) 𝓛 (I ∷ P ∷ c₁ ∷ c₂ ∷ D ∷ Γ) E (operands ps i j) (handed h ps a)
  hands [] i j a bs ts s z is js = no_more !
  hands (job ∷ ps) i j a bs ts s z is js = and_then ! (load ! (found 𝓛 z.0 (stop !)) (look_in ! 4 js.0.1)) (hands ps i (suc j) a bs ts.1 s z.1 is js.1)
  hands (float ∷ ps) i j a bs ts s z is js = and_then ! (load ! (found 𝓛 s.0 (stop !)) (look_in ! 1 is.0.1)) (hands ps (suc i) j a.1 bs.1 ts s.1 z is.1 js)
  hands (reads κ R o ∷ ps) i j a bs ts s z is js = and_then ! (load ! (found 𝓛 s.0 (stop !)) (look_in ! 1 is.0.1)) (hands ps (suc i) j a.1 bs.1 ts s.1 z is.1 js)
  hands (writes κ R o ∷ ps) i j a bs ts s z is js = and_then ! (load ! (found 𝓛 z.1.0 (stop !)) (look_in ! 4 js.1.0.1)) (hands ps (suc i) (suc (suc j)) a.1 bs.1 ts.1.1 s.1 z.1.1 is.1 js.1.1)
  hands (refers κ R o ∷ ps) i j a bs ts s z is js = and_then ! (load ! (found 𝓛 z.0 (stop !)) (look_in ! 4 js.0.1)) (hands ps (suc i) (suc j) a.1 bs.1 ts.1 s.1 z.1 is.1 js.1)

-- ---- the walk. At exit, of the parameters: what is bound, and what is said of it
abbrev Ends : (Rs : List RattleType) → Denots Rs → Type 0
Ends [] a = Unit {0}
Ends (R ∷ Rs) a = Last (R.exit yes) a.0 × Ends Rs a.1

abbrev ended : (Rs : List RattleType) (a : Denots Rs) → Ends Rs a → Fml
ended [] a z = ftrue
ended (R ∷ Rs) a z = fsep (left (R.exit yes) a.0 z.0) (ended Rs a.1 z.1)

module _ {M : Type 1} {𝓤 : Ura M} (𝓛 : Logic 𝓤) (𝓣 : Tables 𝓤 𝓛.H) (n : ℕ) (g : Callee) (ps : List Par) (κs : Lfts (suc n)) (qs : Shares (suc n)) (a : MutBor OpenJob × Denots (rows ps)) (S : ℕ → OpenJob → Ends (rows ps) a.1 → SProp 𝓤) where
  open 𝓛 use {H, A}

  abbrev Toks : SProp 𝓤
  Toks = toks 𝓛 n κs.1 qs.1

  abbrev Own : Fml
  Own = owns (rows ps) a.1 (vals ps a.1)

  -- what g leaves, where it binds a Z at exit and says L of it
  abbrev Left : {Z : Type 0} → (Z → Fml) → (Z → Ends (rows ps) a.1) → Val → SProp 𝓤
  Left {Z} L down v = H.⇛ (ex 𝓤 (λ (r : Handed). sep 𝓤 (sep 𝓤 Toks (sem 𝓛 ((U.the_row).own_val r (v ∷ [])))) (ex 𝓤 (λ (z : Z). sep 𝓤 (sem 𝓛 (L z)) (S r.number r.job (down z))))))

  -- what f leaves
  abbrev Told : ℕ → OpenJob × Ends (rows ps) a.1 → SProp 𝓤
  Told m w = sep 𝓤 (sem 𝓛 (fsep (left ((MutRef (named 0) κs.0 T.the_row).exit yes) a.0 w.0) (ended (rows ps) a.1 w.1))) (S m w.0 w.1)

  abbrev Gave : Val → ℕ → SProp 𝓤
  Gave v m = sep 𝓤 (sep 𝓤 (sep 𝓤 (A.lft κs.0 qs.0) Toks) (sem 𝓛 (u32.own_val m (v ∷ [])))) (ex 𝓤 (Told m))

  abbrev Runs : Type 1
  Runs = ent 𝓤 (sep 𝓤 (sep 𝓤 (A.lft κs.0 qs.0) Toks) (sem 𝓛 (fsep ((MutRef (named 0) κs.0 T.the_row).own_val a.0 (mut_vals a.0)) Own))) (WpFn 𝓤 H 𝓣.C 𝓣.Λ (thin (suc n) g ps) (vptr a.0.ref_ptr.0 a.0.ref_ptr.1 ∷ words ps a.1) (λ v. H.⇛ (ex 𝓤 (Gave v))))

  goes : {Z : Type 0} (L : Z → Fml) (down : Z → Ends (rows ps) a.1) → ((z : Z) → ent 𝓤 (sem 𝓛 (L z)) (sem 𝓛 (ended (rows ps) a.1 (down z)))) → (Is T.the_row a.0.now (val a.0.now ∷ []) → ent 𝓤 (sep 𝓤 Toks (sem 𝓛 Own)) (𝓣.C g (handed a.0.now ps a.1) (Left L down)))
      → Are (rows ps) (Ises (rows ps)) a.1 (vals ps a.1) → Runs
  goes {Z} L down lasts asks are =
      let h : OpenJob = a.0.now in
      let b : ℕ = a.0.ref_ptr.0 in
      let o : ℕ = a.0.ref_ptr.1 in
      let R : RattleType = T.the_row in
      qed 𝓛 ((‵ (flft κs.0 qs.0) ⊛ raw Toks) ∷ ‵ (fsep ((MutRef (named 0) κs.0 R).own_val a.0 (mut_vals a.0)) Own) ∷ []) ∵ split ! $ move ! (2 ∷ []) $ fsplit ! $ fsplit3 ! $ drop ! $ move ! (0 ∷ 1 ∷ 3 ∷ []) $
      enter ! 𝓣.C 𝓣.Λ (thin (suc n) g ps) (vptr b o ∷ words ps a.1) _ $ alloced 𝓛 (outer ps) (λ bs. alloced 𝓛 (inner ps) (λ ts. alloc1 ! (λ l. move ! (2 ∷ 3 ∷ 4 ∷ 5 ∷ 6 ∷ 7 ∷ 8 ∷ []) $ alloc0 ! $ params1 ! $ split3 ! $ move ! (3 ∷ []) $ split3 ! $ move ! (2 ∷ []) $ split3 ! $
      pass1 ! (init ! 0 refl (tt, tt)) $ move ! (2 ∷ []) $ passed 𝓛 (tys ps) bs.1.1 (words ps a.1) (all_Typed 𝓛 (rows ps) (LL.lawfuls 𝓛 (fields_of ps) (laws_of ps)) a.1 (vals ps a.1) are) (pass0 ! $
      -- [the parameters; rec; ..; room for _0; ..; room for the result; ..; `temps`; obs; the borrow; its token; what the parameters own; the other tokens]
      move ! (8 ∷ 9 ∷ 10 ∷ []) $ opens ! tt R {h = h} b o (λ vs. spelt ! R (Is R) (shows 𝓛 R) (LL.vals T.the_type T'.the_laws) (LL.tells T.the_type T'.the_laws) full_share h vs b o $ move ! (1 ∷ []) $ facts ! R (Is R) (shows 𝓛 R) h (val h ∷ []) (λ was.
      -- [the struct's cell; the open borrow; obs; auth; the parameters; rec; ..; room for _0; ..; room for the result; ..; `temps`; what the parameters own; the other tokens]
      let fore : Spots (env_of (outer ps) bs (env_of (inner ps) ts ((T'.mir, l) ∷ []))) 2 (tys ps) bs.1.1 = spots (ty_int w32 ∷ rec_ty ∷ []) (bs.0, (bs.1.0, tt)) (tys ps) bs.1.1 (env_of (inner ps) ts ((T'.mir, l) ∷ [])) in
      let aft : Spots (env_of (outer ps) bs (env_of (inner ps) ts ((T'.mir, l) ∷ []))) (length (outer ps)) (inner ps) ts = spots (outer ps) bs (inner ps) ts ((T'.mir, l) ∷ []) in
      let end : At (env_of (outer ps) bs (env_of (inner ps) ts ((T'.mir, l) ∷ []))) (came ps) T'.mir l = beyond (outer ps) bs (env_of (inner ps) ts ((T'.mir, l) ∷ [])) (past (inner ps) 0) T'.mir l (beyond (inner ps) ts ((T'.mir, l) ∷ []) 0 T'.mir l refl) in
      move ! (4 ∷ 0 ∷ 5 ∷ 11 ∷ []) $ lends 𝓛 h was refl ps 2 _ a.1 are bs.1.1 ts.1 fore aft.1 (ins 𝓛 (tys ps) bs.1.1 (words ps a.1)) (
      move ! (13 ∷ 12 ∷ []) $ join ! $ calls_from ! (fm_of 𝓤 H 𝓛.laws 𝓣) (raw Toks ⊛ ‵ Own) (handed h ps a.1) (Left L down) (asks was) (hands 𝓛 h ps 2 _ a.1 bs.1.1 ts.1 fore aft.1 (ins 𝓛 (tys ps) bs.1.1 (words ps a.1)) (ins 𝓛 (temps ps) ts.1 (kept h ps a.1))) (λ v.
      use1 𝓛 (later (some (λ (r : Handed). (raw Toks ⊛ ‵ ((U.the_row).own_val r (v ∷ []))) ⊛ some (λ (z : Z). ‵ (L z) ⊛ raw (S r.number r.job (down z)))))) (id⊢ 𝓤 _) $ await ! tt $ pick ! (λ r. split ! $ split ! $ move ! (2 ∷ []) $ pick ! (λ z. split ! $
      move ! (3 ∷ []) $ facts ! U.the_row (Is U.the_row) (shows 𝓛 U.the_row) r (v ∷ []) (λ is.
      -- [what is said of the last values; the clause; the other tokens; the parameters; the struct's cell; rec; `temps`; the open borrow; obs; auth; .. of rec; room for _0; ..; room for the result; ..]
      land ! (found 𝓛 aft.0 (stop !)) (init ! 13 refl ((LL.lawful U.the_type U'.the_laws 𝓛).typed r _ is).0) $ rewrite ! 13 (λ (u : Val). ‵ (fat full_share U'.mir ts.0 0 u)) (ap only (LL.tells U.the_type U'.the_laws r _ is)) refl $
      assigns ! (of_opd ! (load ! (found 𝓛 aft.0 (fld ! {τ = T'.mir} {d = 0} refl (stop !))) (look_in ! 13 {τ = T'.mir} (sub ! {τs = tcons T'.mir (tcons (ty_int w32) tnil)} 0 {τ = T'.mir} {d = 0} refl (whole !))))) (found 𝓛 end (stop !)) (init ! 15 refl ((LL.lawful T.the_type T'.the_laws 𝓛).typed r.job _ (LL.owed U.the_type U'.the_laws r _ is).0).0) $
      assigns ! (of_opd ! (load ! (found 𝓛 end (stop !)) (look ! 15 refl))) (from ! (hop ! (look ! 5 refl) (stop !))) (store_raw ! 4 refl ((LL.lawful T.the_type T'.the_laws 𝓛).typed r.job _ (LL.owed U.the_type U'.the_laws r _ is).0).0) $
      assigns ! (of_opd ! (load ! (found 𝓛 aft.0 (fld ! {τ = ty_int w32} {d = size T'.mir} refl (stop !))) (look_in ! 13 {τ = ty_int w32} (sub ! {τs = tcons T'.mir (tcons (ty_int w32) tnil)} 1 {τ = ty_int w32} {d = size T'.mir} refl (whole !))))) (from ! (stop !)) (init ! 11 refl ((uint_Lawful 𝓛 w32).typed r.number _ (LL.owed U.the_type U'.the_laws r _ is).1.0).0) $
      owned ! R (Is R) (LL.makes T.the_type T'.the_plain 𝓛) r.job _ (LL.owed U.the_type U'.the_laws r _ is).0 $ move ! (5 ∷ 0 ∷ 8 ∷ 9 ∷ 10 ∷ []) $ closes ! tt R r.job (val r.job ∷ []) b o $
      use1 𝓛 (‵ (fres a.0.ghost_name (R.coded.code r.job))) (𝓛.names.obs-res a.0.ghost_name (R.coded.code r.job)) $ fjoin ! $
      -- [the struct's last value, and its borrow; its token; what is said of the last values; the clause; the other tokens; the parameters; rec; `temps`; .. of rec; _0; ..; the result; ..]
      returns ! (look ! 9 refl) $ move ! (9 ∷ 10 ∷ 6 ∷ 8 ∷ 5 ∷ []) $ group ! 5 $ freed 𝓛 (outer ps) bs (vint w32 r.number ∷ vptr b o ∷ words ps a.1) (
      move ! (6 ∷ 7 ∷ 5 ∷ []) $ group ! 3 $ freed 𝓛 (inner ps) ts (LL.val U.the_type U'.the_laws r ∷ kept h ps a.1) (
      move ! (5 ∷ 6 ∷ []) $ forget ! 0 refl $ free1 ! $ free0 ! $
      updating ! $ at_once ! $ show ! (Gave (vint w32 r.number)) r.number $ owned ! u32 (Is u32) (uint_Makes 𝓛 w32) r.number _ (LL.owed U.the_type U'.the_laws r _ is).1.0 $ move ! (2 ∷ 5 ∷ []) $ join ! $ join ! $ frame ! $
      show ! (Told r.number) (r.job, down z) $ move ! (1 ∷ []) $ use1 𝓛 (‵ (ended (rows ps) a.1 (down z))) (lasts z) $ move ! (1 ∷ 0 ∷ []) $ fjoin ! $ frame ! $ done {Γ = raw (S r.number r.job (down z)) ∷ []} !)))))))))))))

  pub makes : ent 𝓤 (sep 𝓤 (sep 𝓤 Toks (sem 𝓛 Own)) (emp 𝓤)) (𝓣.C g (handed a.0.now ps a.1) (Left (ended (rows ps) a.1) (λ z. z))) → Are (rows ps) (Ises (rows ps)) a.1 (vals ps a.1) → Runs
  makes met = goes (ended (rows ps) a.1) (λ z. z) (λ z. id⊢ 𝓤 _) (λ was. via 𝓤 _ (qed 𝓛 (raw Toks ∷ ‵ Own ∷ []) ∵ join ! $ frame ! $ done !) met)

  pub steps : ent 𝓤 (sep 𝓤 (sep 𝓤 Toks (sem 𝓛 (fsep ((T.the_row).own_val a.0.now (val a.0.now ∷ [])) Own))) (emp 𝓤)) (𝓣.C g (handed a.0.now ps a.1) (Left (λ (z : Unit {0} × Ends (rows ps) a.1). fsep ftrue (ended (rows ps) a.1 z.1)) (λ z. z.1)))
      → Are (rows ps) (Ises (rows ps)) a.1 (vals ps a.1) → Runs
  steps met = goes (λ (z : Unit {0} × Ends (rows ps) a.1). fsep ftrue (ended (rows ps) a.1 z.1)) (λ z. z.1) (λ z. snd∗ 𝓤 (emp 𝓤) (sem 𝓛 (ended (rows ps) a.1 z.1)))
      (λ was. via 𝓤 _ (qed 𝓛 (raw Toks ∷ ‵ Own ∷ []) ∵ move ! (1 ∷ []) $ owned ! T.the_row (Is T.the_row) (LL.makes T.the_type T'.the_plain 𝓛) a.0.now _ was $ fjoin ! $ move ! (1 ∷ 0 ∷ []) $ join ! $ frame ! $ done !) met)

-- ---- f's theorem from g's, by a walk over any tables, at the machine values that f's arguments have
module _ {M : Type 1} {𝓤 : Ura M} (𝓛 : Logic 𝓤) (𝓜 : Model 𝓤 𝓛.H) (𝓡 : Running 𝓤 𝓛.H 𝓜) (S G : Signature) (c : Spec 𝓤 S) (d : Spec 𝓤 G) (f : Fn) (g : Callee) where
  open 𝓛 use {H}

  abbrev Rows : Lfts S.lifetimes → List RattleType
  Rows κs = types_at S.params κs

  pub stands : (γ : Routines) (k : Callee) → Closed 𝓤 H (tables 𝓤 H 𝓜 𝓡 γ).C (tables 𝓤 H 𝓜 𝓡 γ).Λ k f → (r : Routine) → γ g ≡ r → Meets 𝓛 G (𝓡.run r) d → (sp : (κs : Lfts S.lifetimes) → Spells (Rows κs)) → ((κs : Lfts S.lifetimes) → Tellss (Rows κs) (Ises (Rows κs)) (sp κs))
      → ((𝓣 : Tables 𝓤 H) → Meets 𝓛 G (𝓣.C g) d → (κs : Lfts S.lifetimes) (qs : Shares S.lifetimes) (bounds : AllOutlive S.lifetimes S.outlives κs) (a : Args S κs) (γ : (c κs a).ghost) → Are (Rows κs) (Ises (Rows κs)) a (valss (Rows κs) (sp κs) a)
      → ent 𝓤 (on_entry 𝓛 S κs qs a (valss (Rows κs) (sp κs) a)) (WpFn 𝓤 H 𝓣.C 𝓣.Λ f (flat (Rows κs) (valss (Rows κs) (sp κs) a)) ((triple_of 𝓛 S c).post ((κs, qs, bounds, a, valss (Rows κs) (sp κs) a), γ))))
      → Meets 𝓛 S ((tables 𝓤 H 𝓜 𝓡 γ).C k) c
  unfolding tables_of
  stands γ k closed r e met sp tl walks = entered 𝓤 H (triple_of 𝓛 S c) (tables 𝓤 H 𝓜 𝓡 γ).C (tables 𝓤 H 𝓜 𝓡 γ).Λ k f closed (λ y.
      let 𝓣 : Tables 𝓤 H = tables_of 𝓤 H 𝓜 (tables 𝓤 H 𝓜 𝓡 γ) in
      via 𝓤 (on_entry 𝓛 S y.0.0 y.0.1 y.0.3 y.0.4) (fst∗ 𝓤 _ ((c y.0.0 y.0.3).requires y.1))
      (said 𝓛 S y.0.0 y.0.1 (sp y.0.0) (tl y.0.0) y.0.3 (λ us. WpFn 𝓤 H 𝓣.C 𝓣.Λ f (flat (Rows y.0.0) us) ((triple_of 𝓛 S c).post ((y.0.0, y.0.1, y.0.2, y.0.3, us), y.1))) y.0.4
      (walks 𝓣 (cited 𝓤 H (triple_of 𝓛 G d) 𝓜 𝓡 γ g r e met) y.0.0 y.0.1 y.0.2 y.0.3 y.1)))
