-- What each move does to the pending groups and to the durable contents.
use Rattle.power_loss.proofs.Common.{◌⊎◌, inl, inr, subst, ◌≡◌, ℕ, ◌+◌, ◌-◌, ◌<◌, not, Bool, true, false, if◌then◌else◌}
use Rattle.power_loss.proofs.Common.{List, [], ◌∷◌, ◌++◌, drop, length, Option, Some, None, refl, sym, ap, ◌∙◌, arith}
use Rattle.power_loss.proofs.Common.{drop-append-le, drop_all, length-drop, Cell, GroupPage, MarkPage, Nothing, Erasing}
use Rattle.power_loss.proofs.Common.{Flight, ForTask, Programming, Reader, Reading, program_failed, Group, put_groups}
use Rattle.power_loss.proofs.Common.{Ledger, durable_contents, is_standing, page_stands, Accept, EndJob, Ending}
use Rattle.power_loss.proofs.Common.{IsAllowedMove, Move, ReadRight, ReadWrong, TakeStep, WentWell, WentWrong, die_idle}
use Rattle.power_loss.proofs.Common.{end_flight, mark_again, moved, read_right, read_wrong, Order, OrderCopy}
use Rattle.power_loss.proofs.Common.{OrderRepair, Translation, copy_begun, due_order, has_mark_number, is_mended}
use Rattle.power_loss.proofs.Common.{mark_ordered, name_of, repair_ordered, stepped, with_plan, Fence, Key, Place, Tag}
use Rattle.power_loss.proofs.Common.{Valid, grown_length}
use Rattle.power_loss.proofs.MachineWords.{FrontierStops, PendingStays, accepted_by, brings_page}
use Rattle.std.proofs.lemmas.List.{take-append-le}
use Rattle.ufs_spec.specs.Ledger.{pending}
use Rattle.power_loss.specs.Pending.{is_new_page}
use Rattle.ufs_laws.proofs.walk.LayerEffects.{order_due}
use Rattle.power_loss.proofs.pending_groups.PendingByFrontier.{beyond, stops_more}

-- One group more

abbrev grows : Ledger → Group → ℕ → Ledger
grows l g repairs = record l { groups = l.groups ++ g ∷ []; repairs = repairs }

-- it is above the frontier
durable_grows : {t : Translation} (g : Group) (repairs : ℕ) → Valid t →
    durable_contents (grows t.ledger g repairs) ≡ durable_contents t.ledger
durable_grows {t} g repairs v =
    let w = v.frontier.within in
    ap (put_groups t.ledger.base) (take-append-le (t.ledger.frontier - t.ledger.greatest_seen) t.ledger.groups (g ∷ [])
    (omega arith))

stops_grows : {t : Translation} (g : Group) (repairs : ℕ) → Valid t → 0 < length g → FrontierStops t.ledger →
    FrontierStops (grows t.ledger g repairs)
stops_grows {t} g repairs v some old =
    stops_more t.ledger.greatest_seen t.ledger.frontier t.ledger.groups g t.ledger.standing v.frontier.above some
    (λ i e. let a = v.frontier.above in beyond (t.ledger.frontier + 1) i v.frontier (omega arith)) old

-- a repair is none of a command
repair_pends : {t : Translation} (g : Group) → Valid t → t.ledger.repairs ≡ length t.ledger.groups →
    pending (grows t.ledger g (t.ledger.repairs + 1)) ≡ pending t.ledger
repair_pends {t} g v all =
    let e = grown_length t.ledger.groups g in
    none _ (drop (t.ledger.repairs + 1) (t.ledger.groups ++ g ∷ []))
    (drop_all (t.ledger.repairs + 1) (t.ledger.groups ++ g ∷ []) (omega arith))
    ∙ sym (none _ (drop t.ledger.repairs t.ledger.groups) (drop_all t.ledger.repairs t.ledger.groups (omega arith)))
  where
    none : (n : ℕ) (xs : List Group) → xs ≡ [] → drop n xs ≡ []
    none n xs e = let l = ap length e in drop_all n xs (omega arith)

-- the group of a command is the last
command_pends : {t : Translation} (g : Group) → Valid t → pending (grows t.ledger g t.ledger.repairs) ≡ pending t.ledger
    ++ g ∷ []
command_pends {t} g v =
    let r = v.history.within in
    let a = v.frontier.above in
    let w = v.frontier.within in
    ap (drop (t.ledger.frontier - (t.ledger.greatest_seen + t.ledger.repairs)))
    (drop-append-le t.ledger.repairs t.ledger.groups (g ∷ []) r)
    ∙ drop-append-le (t.ledger.frontier - (t.ledger.greatest_seen + t.ledger.repairs))
    (drop t.ledger.repairs t.ledger.groups) (g ∷ [])
    (let d = length-drop t.ledger.repairs t.ledger.groups in omega arith)

-- What a move does

-- the same groups are pending, and the frontier stops where it did
abbrev pub StaysSo : Ledger → Ledger → Type 0
StaysSo before now = PendingStays before now × (FrontierStops before → FrontierStops now)

pub record AcceptsNone (t : Translation) (move : Move) : Type 0 where
  pub accepts : accepted_by move ≡ None
  pub stays : StaysSo t.ledger (moved t move).ledger

pub record AcceptsOne (t : Translation) (move : Move) : Type 0 where
  pub group : Group
  pub accepts : accepted_by move ≡ Some group
  pub pends : pending (moved t move).ledger ≡ pending t.ledger ++ group ∷ []
  pub durable : durable_contents (moved t move).ledger ≡ durable_contents t.ledger
  pub stops : FrontierStops t.ledger → FrontierStops (moved t move).ledger

pub record WritesPage (t : Translation) (move : Move) : Type 0 where
  pub place : Place
  pub tag : Tag
  pub accepts : accepted_by move ≡ None
  pub is : (moved t move).ledger ≡ page_stands t.ledger (name_of tag) place
  pub new : brings_page t move ≡ not (is_standing t.ledger tag.number tag.index)

abbrev pub Effect : Translation → Move → Type 0
Effect t move = AcceptsNone t move ⊎ (AcceptsOne t move ⊎ WritesPage t move)

none_new : (t : Translation) (move : Move) → accepted_by move ≡ None → StaysSo t.ledger (moved t move).ledger →
    Effect t move
none_new t move accepts stays = inl (record { accepts = accepts; stays = stays })

same : (l : Ledger) → StaysSo l l
same l = ((refl, refl), λ s. s)

-- Turns

copy_stays : (t : Translation) (p : Place) (cell : Cell) → StaysSo t.ledger (copy_begun t p cell).ledger
copy_stays t p (GroupPage tag body) = same t.ledger
copy_stays t p cell = same t.ledger

-- until the device is mended no command's group is there
repair_stays : {t : Translation} (k : Key) (left : List Key) → Valid t → is_mended t.work.mending ≡ false →
    StaysSo t.ledger (repair_ordered t k left).ledger
repair_stays {t} k left v un =
    let g : Group = record { key = k; body = t.ledger.base k } ∷ [] in
    let repairs = t.ledger.repairs + 1 in
    let all = (v.history.mending un).0 in
    ((repair_pends g v all, durable_grows g repairs v), stops_grows g repairs v (omega arith))

order_stays : {t : Translation} (o : Option Order) → Valid t → due_order t ≡ o → StaysSo t.ledger (stepped t o).ledger
order_stays {t} (Some (OrderRepair k left)) v is =
    repair_stays k left v (ap is_mended (order_due t (OrderRepair k left) is).1.1)
order_stays {t} (Some (OrderCopy victim p left)) v is = copy_stays (with_plan t victim left) p (t.disk.cells p)
order_stays (Some order) v is = ((refl, refl), λ s. s)
order_stays {t} None v is = same t.ledger

-- Endings

right_stays : (t : Translation) (reader : Reader) → StaysSo t.ledger (read_right t reader).ledger
right_stays t (ForTask tag index) = same t.ledger
right_stays t reader = same t.ledger

wrong_stays : (t : Translation) (reader : Reader) → StaysSo t.ledger (read_wrong t reader).ledger
wrong_stays t (ForTask tag index) = same t.ledger
wrong_stays t reader = same t.ledger

again_stays : (t : Translation) (fence : Option Fence) → StaysSo t.ledger (mark_again t fence).ledger
again_stays t fence = by (has_mark_number t)
  where
    by : (b : Bool) → StaysSo t.ledger
        (if b then mark_ordered t fence else record t { work = record t.work { step = None } }).ledger
    by true = ((refl, refl), λ s. s)
    by false = same t.ledger

-- what a job that ended leaves is what is left of the job in flight
still : (t : Translation) (die : ℕ) (flight : Option Flight) (ending : Ending) → t.disk.flights die ≡ flight →
    StaysSo t.ledger (end_flight t die flight ending).ledger → Effect t (EndJob die ending)
still t die flight ending is h =
    none_new t (EndJob die ending) refl (subst (λ f. StaysSo t.ledger (end_flight t die f ending).ledger) (sym is) h)

end_effect : (t : Translation) (die : ℕ) (flight : Option Flight) (ending : Ending) → t.disk.flights die ≡ flight →
    Effect t (EndJob die ending)
end_effect t die (Some (Programming p (GroupPage tag body))) WentWell is =
    inr (inr (record {
      place = p;
      tag = tag;
      accepts = refl;
      is = ap (λ f. (end_flight t die f WentWell).ledger) is;
      new = ap (is_new_page t.ledger) is;
    }))
end_effect t die (Some (Programming p (MarkPage m))) (WentWrong left) is =
    still t die (Some (Programming p (MarkPage m))) (WentWrong left) is
    (again_stays (record t { disk = program_failed t.disk p left }) m.fence)
end_effect t die (Some (Reading reader place)) ReadRight is =
    still t die (Some (Reading reader place)) ReadRight is (right_stays (die_idle t die) reader)
end_effect t die (Some (Reading reader place)) ReadWrong is =
    still t die (Some (Reading reader place)) ReadWrong is (wrong_stays (die_idle t die) reader)
end_effect t die (Some (Programming p Nothing)) WentWell is =
    still t die (Some (Programming p Nothing)) WentWell is (same t.ledger)
end_effect t die (Some (Programming p (MarkPage m))) WentWell is =
    still t die (Some (Programming p (MarkPage m))) WentWell is ((refl, refl), λ s. s)
end_effect t die (Some (Erasing s)) WentWell is = still t die (Some (Erasing s)) WentWell is (same t.ledger)
end_effect t die flight ending is = still t die flight ending is (same t.ledger)

-- Each move

one_more : {t : Translation} (move : Move) {g : Group} → Valid t → accepted_by move ≡ Some g → 0 < length g →
    (moved t move).ledger ≡ grows t.ledger g t.ledger.repairs → Effect t move
one_more {t} move {g} v accepts some is =
    inr (inl (record {
      group = g;
      accepts = accepts;
      pends = ap pending is ∙ command_pends g v;
      durable = ap durable_contents is ∙ durable_grows g t.ledger.repairs v;
      stops = λ s. subst FrontierStops (sym is) (stops_grows g t.ledger.repairs v some s);
    }))

pub effect : {t : Translation} (move : Move) → Valid t → IsAllowedMove t move → Effect t move
effect {t} (Accept claimed g) v may = one_more (Accept claimed g) v refl (let s = may.4.some in omega arith) refl
effect {t} (EndJob die ending) v may = end_effect t die (t.disk.flights die) ending refl
effect {t} TakeStep v may = none_new t TakeStep refl (order_stays (due_order t) v refl)
effect {t} move v may = none_new t move refl ((refl, refl), λ s. s)
