-- The parts of what holds between events, and what the moves of a call leave of each.
use Rattle.power_loss.proofs.Common.{◌≡◌, ℕ, ◌+◌, ◌≤◌, false, List, [], ◌∷◌, ◌++◌, Option, None, length, drop, refl}
use Rattle.power_loss.proofs.Common.{sym, ap, ◌∙◌, subst, arith, length-append, drop_all, Array, Shows, Flight}
use Rattle.power_loss.proofs.Common.{CanApplyAll, Contents, Group, IsArea, IsBlock, IsData, IsKey, IsPlain, IsSettings}
use Rattle.power_loss.proofs.Common.{IsSettingsBody, content, groups_of, accepted_groups, Ending, IsAllowedMove, Move}
use Rattle.power_loss.proofs.Common.{TakeStep, end_flight, moved, Plain, Shape, shape_of, shape_of_numbers, Translation}
use Rattle.power_loss.proofs.Common.{is_mended, Numbers, Key, Valid}
use Rattle.power_loss.proofs.MachineWords.{Command, with_moves, State, TasksAreRight, TasksRight, IsTied}
use Rattle.ufs_laws.proofs.plain_contents.PlainFromContents.{contents_of}
use Rattle.power_loss.proofs.moves.MovesKeepCellsFitting.{BaseFits, Fits, Stays, move_fits, move_stays}
use Rattle.ufs_laws.proofs.walk.LayerEffects.{ComesOf, Effect, RepairOrdered, ended, turn_only, turned_by, with_effect}
use Rattle.power_loss.proofs.open_tasks.TaskLists.{tasks_more}
use Rattle.power_loss.specs.LaidRests.{RestsLaid}
use Rattle.power_loss.proofs.laid_rests.AllMoves.{laid_move}

-- The parts

-- what joins the translation layer with the pages, the life's start and the accepted commands
pub record Ties (array : Array) (base : Plain) (accepted : List Command) (t : Translation) : Type 0 where
  pub shown : Shows array t.disk.cells
  pub plain : IsPlain base
  pub shape : shape_of base ≡ shape_of_numbers t.numbers
  pub contents : (k : Key) → IsKey (shape_of_numbers t.numbers) k → t.ledger.base k ≡ content base k
  pub commands : CanApplyAll base accepted
  pub groups : accepted_groups t.ledger ≡ groups_of base accepted

pub base_fits : {n : Numbers} {base : Plain} {f : Contents} → IsPlain base → shape_of base ≡ shape_of_numbers n →
    ((k : Key) → IsKey (shape_of_numbers n) k → f k ≡ content base k) → BaseFits n f
base_fits {n} {base} {f} plain shape same = record { block = block; settings = λ k is e. settings k is e }
  where
    block : (k : Key) → IsKey (shape_of_numbers n) k → IsBlock (f k)
    block k is = subst IsBlock (sym (same k is))
        ((contents_of base plain).blocks k (subst (λ (s : Shape). IsKey s k) (sym shape) is))

    settings : (k : Key) → IsKey (shape_of_numbers n) k → k.kind ≡ 3 → IsSettingsBody (f k)
    settings k (IsData u a there within) e = absurd (omega arith)
    settings k (IsArea region page there within) e = absurd (omega arith)
    settings k IsSettings e = subst IsSettingsBody (sym (same _ IsSettings)) (contents_of base plain).settings

pub ties_of : {s : State} → IsTied s → Ties s.array s.base s.accepted s.translation
ties_of v = assumption

pub fits_of : {s : State} → IsTied s → Fits s.translation
fits_of {s} v =
    let base : BaseFits s.translation.numbers s.translation.ledger.base = base_fits v.base.0 v.base.1 v.contents in
    assumption

pub whole : (s : State) → Fits s.translation → RestsLaid s.translation →
    Ties s.array s.base s.accepted s.translation → TasksAreRight s → IsTied s
whole s f l t r = assumption

-- What moves leave

pub ties_stay : {array other : Array} {base : Plain} {accepted : List Command} {t u : Translation} →
    Ties array base accepted t → Stays t u →
    Shows other u.disk.cells → accepted_groups u.ledger ≡ accepted_groups t.ledger → Ties other base accepted u
ties_stay {accepted = accepted} h s shown groups = record {
  shown = shown;
  plain = h.plain;
  shape = h.shape ∙ ap shape_of_numbers (sym s.numbers);
  contents = λ k is. ap (λ (f : Contents). f k) s.base
      ∙ h.contents k (subst (λ (n : Numbers). IsKey (shape_of_numbers n) k) s.numbers is);
  commands = h.commands;
  groups = groups ∙ h.groups;
}

-- what a move leaves of the accepted groups and the claims
pub record Leaves (t u : Translation) : Type 0 where
  pub groups : accepted_groups u.ledger ≡ accepted_groups t.ledger
  pub claims : u.claims ≡ t.claims

-- before the device is mended all groups are repairs
repair_leaves : {t : Translation} (g : Group) → Valid t → is_mended t.work.mending ≡ false →
    drop (t.ledger.repairs + 1) (t.ledger.groups ++ g ∷ []) ≡ drop t.ledger.repairs t.ledger.groups
repair_leaves {t} g v unmended =
    let all = (v.history.mending unmended).0 in
    let long = length-append t.ledger.groups (g ∷ []) in
    drop_all (t.ledger.repairs + 1) (t.ledger.groups ++ g ∷ []) (omega arith)
    ∙ sym (drop_all t.ledger.repairs t.ledger.groups (omega arith))

effect_leaves : {t : Translation} (o : Option Flight) (e : Effect) → Valid t → ComesOf t o e →
    Leaves t (with_effect t e)
effect_leaves {t} o (RepairOrdered k left) v comes =
    record {
      groups = repair_leaves (record { key = k; body = t.ledger.base k } ∷ []) v (ap is_mended comes.1.1);
      claims = refl;
    }
effect_leaves o e v comes = record { groups = refl; claims = refl }

pub end_leaves : {t : Translation} (die : ℕ) (flight : Option Flight) (ending : Ending) → Valid t →
    Leaves t (end_flight t die flight ending)
end_leaves {t} die flight ending v = ended (Leaves t) t die flight ending (λ e comes. effect_leaves flight e v comes)

pub tasks_stay : (s : State) (accepted : List Command) {u : Translation} → Stays s.translation u →
    s.translation.claims ≤ u.claims → length s.accepted ≤ length accepted → TasksAreRight s →
    TasksRight u.numbers (length accepted) (is_mended u.work.mending) u.claims s.tasks s.shorts
tasks_stay s accepted {u} stays claims l h =
    subst (λ (n : Numbers). TasksRight n (length accepted) (is_mended u.work.mending) u.claims s.tasks s.shorts)
    (sym stays.numbers) (tasks_more l stays.mended claims h)

-- Moves that change nothing but the translation layer, and leave cells, accepted groups and claims

pub one_move : {s : State} (move : Move) → IsTied s → IsAllowedMove s.translation move →
    Leaves s.translation (moved s.translation move) →
    (moved s.translation move).disk.cells ≡ s.translation.disk.cells → IsTied (with_moves s (move ∷ []))
one_move {s} move v may leaves cells =
    let t = s.translation in
    let u = moved t move in
    let stays = move_stays t move in
    whole (with_moves s (move ∷ [])) (move_fits move (fits_of v) may) (laid_move t move v.valid v.laid may)
    (ties_stay (ties_of v) stays (subst (Shows s.array) (sym cells) v.shown) leaves.groups)
    (tasks_stay s s.accepted stays (let c = leaves.claims in omega arith) (omega arith) v.tasks)

-- A step

pub step_keeps : {s : State} → IsTied s → IsTied (with_moves s (TakeStep ∷ []))
step_keeps {s} v = one_move TakeStep v tt
    (turned_by (Leaves s.translation) s.translation (λ e comes. effect_leaves None e v.valid comes))
    (ap (λ (u : Translation). u.disk.cells) (turn_only s.translation).is)
