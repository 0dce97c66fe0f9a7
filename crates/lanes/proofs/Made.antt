-- From the core that was taken to the step that was made of it.
use Rattle.lanes.proofs.Common.{Bool, DeviceCore, Did, DieState, Entry, Event, Fits, Follows, Job, LaneView, List, Made}
use Rattle.lanes.proofs.Common.{Me, Meets, Message, None, OfReply, Ok, Option, Output, Reply, Some, State, Stepped}
use Rattle.lanes.proofs.Common.{Turn, Vec, View, WorldState, [], ap, false, lane_given, mine, new_die, numbers_of, refl}
use Rattle.lanes.proofs.Common.{shown, spelling, step_by, subst, sym, true, ℕ, ⊎_elim, ◌++◌, ◌∙◌, ◌∷◌, ◌≡◌}
use Rattle.std.proofs.lemmas.List.{set-get_or}
use Rattle.std.specs.Prelude.{Result, slice_set}
use Rattle.atomic_table.specs.Table.{rest}
use Rattle.ufs_spec.specs.Lives.{IsShown, Leads, Reopens}
use Rattle.ufs_spec.specs.Machine.{OfTurn}
use Rattle.ufs_spec.specs.declared.events.Event.TheVariants as event
use Rattle.ufs_spec.specs.declared.events.Output.TheVariants as output
use Rattle.ufs_spec.specs.declared.faults.HostFault.{HostFault}
use Rattle.device.specs.Describes.{Describes, IsAnswered, IsGiven, IsHeardAs, IsReplied}
use Rattle.device.specs.Worlds.{Went, jobs_given}
use Rattle.device.proofs.dies_of_world.WentRight.{given_went, heard_went, replied_went, silent_went, stepped_went}
use Rattle.lanes.specs.declared.view.Made.TheVariants as made
use Rattle.lanes.specs.Legal.{IsReplyTold, IsToldAs, IsToldRight}
use Rattle.lanes.specs.Rule.{Agrees, HasTaken, IsAt, IsLaneOf, IsLegalIf, job_given}
use Rattle.lanes.proofs.Growing.{mine-own}

first_slot : (xs : List (ℕ × DeviceCore)) (a b : DeviceCore) → xs ≡ (0, a) ∷ [] → xs ≡ (0, b) ∷ rest xs → a ≡ b
first_slot xs a b one other = ap (λ (l : List (ℕ × DeviceCore)). head a l) (sym one ∙ other)
  where
    head : DeviceCore → List (ℕ × DeviceCore) → DeviceCore
    head d [] = d
    head d (x ∷ l) = x.1

-- what leads on is a step of a legal list
pub follows_went : (w : WorldState) (s : State) (step : Made) (e : Event) (o : Output) → IsToldAs step e o →
    IsToldRight s step → ((t : State) → Reopens (numbers_of s) s e o t → ⊥) → Went s e w (Ok o) →
    (t : State) × Follows s step t × Fits w t
follows_went w s step e o told right goes_on went = (
  went.0,
  record {
    event = e;
    output = o;
    told_as = told;
    told_right = right;
    leads = ⊎_elim (λ (h : Leads s e o went.0). h) (λ (h : Reopens (numbers_of s) s e o went.0). absurd (goes_on went.0
        h))
        went.1;
  },
  went.2,
)

module _ {D : Type 0} (state : D → DieState) where
  -- the core that was taken is the one that was called
  pub call_meets : (m n : Me DeviceCore (View D)) (found after : DeviceCore) (step : Made)
      (f : Option (LaneView D) → Option (LaneView D)) → HasTaken m n → n.1 ≡ (0, found) ∷ rest n.1 →
      Meets state found step after m.0.lane (f m.0.lane) →
      IsAt (n.0, (0, after) ∷ rest n.1) (λ b a. Meets state b step a n.0.lane (f n.0.lane))
  call_meets m n found after step f has is meets =
      let core = has.0 in
      let slots : n.1 ≡ (0, core) ∷ [] = ap (λ (x : Me DeviceCore (View D)). x.1) has.2 in
      let same : core ≡ found = first_slot n.1 core found slots is in (
        found,
        after,
        ap (λ (x : Me DeviceCore (View D)). x.0.held) has.2 ∙ ap Some same,
        ap (λ (l : List (ℕ × DeviceCore)). (0, after) ∷ rest l) slots,
        subst (λ (l : Option (LaneView D)). Meets state found step after l (f l))
            (sym (ap (λ (x : Me DeviceCore (View D)). x.0.lane) has.2)) meets,
      )

  pub call_did : (m n o : Me DeviceCore (View D)) (step : Made) (f : Option (LaneView D) → Option (LaneView D)) →
      HasTaken m n → Stepped state n.0 step (f n.0.lane) o → Did state m.0 step (f m.0.lane) o.0
  call_did m n o step f has stepped =
      let core = has.0 in
      let more : List Entry = has.1 in
      let taken : View D = record m.0 { seen = m.0.seen ++ more; held = Some core; looks = false } in
      let view : n.0 ≡ taken = ap (λ (x : Me DeviceCore (View D)). x.0) has.2 in
      let told : Stepped state taken step (f m.0.lane) o =
      subst (λ (v : View D). Stepped state v step (f v.lane) o) view stepped in
      let after = ap (λ (x : Me DeviceCore (View D)). x.0) told.0 in record {
        between = more;
        list = ap (λ (v : View D). v.seen) after;
        own =
            ap (λ (v : View D). mine m.0.by v.seen) after
            ∙ mine-own m.0.by step (m.0.seen ++ more)
            ∙ ap (λ (l : List Entry). l ++ step_by m.0.by step ∷ []) has.3;
        seat = ap (λ (v : View D). v.by) after;
        opening = ap (λ (v : View D). v.opening) after;
        legal = subst (λ (v : View D). IsLegalIf state m.0.opening v.seen) (sym after) told.1;
        lane_is = ap (λ (v : View D). v.lane) after;
        can_work = told.2;
      }

  -- What the device ensures of its calls, as steps

  -- of a seat without a die
  plain : (before after : DeviceCore) (step : Made) (lane : Option (LaneView D)) → lane ≡ None →
      ((w : WorldState) (s : State) → Fits w s → Describes before s → w.core ≡ before →
      (t : State) × Follows s step t × Fits (record w { core = after }) t) → Meets state before step after lane None
  plain before after step lane none leads =
      subst (λ (l : Option (LaneView D)). Meets state before step after l None) (sym none) record {
        one_die = tt;
        leads = λ w is agrees s fits.
            leads w s fits (subst (λ (c : DeviceCore). Describes c s) is fits.describes) is;
      }

  pub host_meets : (before after : DeviceCore) (bytes : List ℕ) (told : Vec ℕ) (result : Result Unit HostFault)
      (lane : Option (LaneView D)) → told.items ≡ bytes → lane ≡ None →
      ((s : State) → Describes before s → IsHeardAs s bytes result after) →
      Meets state before (made.Host bytes result) after lane None
  host_meets before after bytes told result lane same none ensures =
      plain before after (made.Host bytes result) lane none
      (λ w s fits describes is.
      follows_went (record w { core = after }) s (made.Host bytes result) (event.Host told) (output.Host result)
      (same, refl) tt (λ t h. h)
      (heard_went w after s (event.Host told) told.items result (λ heard heard_is. (heard, heard_is, refl)) fits
      (subst (λ (bs : List ℕ). IsHeardAs s bs result after) (sym same) (ensures s describes))))

  pub turn_meets : (before after : DeviceCore) (due : Bool) (lane : Option (LaneView D)) → lane ≡ None →
      ((s : State) → Describes before s → IsAnswered s Turn (OfTurn due) after) →
      Meets state before (made.Turn due) after lane None
  turn_meets before after due lane none ensures =
      plain before after (made.Turn due) lane none
      (λ w s fits describes is.
      follows_went (record w { core = after }) s (made.Turn due) event.Turn (output.Turn due) refl tt (λ t h. h)
      (stepped_went w after s due fits (ensures s describes)))

  -- Jobs

  same_dies : (w : WorldState) (l : LaneView D) → Agrees state w l →
      slice_set w.dies l.die (state l.content) ≡ w.dies
  same_dies w l a = ap (slice_set w.dies l.die) (sym a.content) ∙ set-get_or w.dies l.die (new_die 0 0)

  same_jobs : (w : WorldState) (l : LaneView D) (told : Option Job) → Agrees state w l →
      jobs_given w.jobs l.die told ≡ slice_set w.jobs l.die (job_given l.job told)
  same_jobs w l None a = sym (ap (slice_set w.jobs l.die) (sym a.job) ∙ set-get_or w.jobs l.die None)
  same_jobs w l (Some j) a = refl

  pub take_meets : (before after : DeviceCore) (die : ℕ) (told : Option Job) (lane : Option (LaneView D)) →
      IsLaneOf lane die → ((s : State) → Describes before s → IsGiven s die told after) →
      Meets state before (made.Take die told) after lane (lane_given lane told)
  take_meets before after die told None is ensures = absurd is
  take_meets before after die told (Some l) is ensures = record {
    one_die = refl;
    leads = λ w same a s fits.
        let step : Made = made.Take die told in
        let went = given_went w after s die told fits
        (ensures s (subst (λ (c : DeviceCore). Describes c s) same fits.describes)) in
        let jobs : jobs_given w.jobs die told ≡ slice_set w.jobs l.die (job_given l.job told) =
        ap (λ (n : ℕ). jobs_given w.jobs n told) (sym is) ∙ same_jobs w l told a in
        let next = follows_went (record w { core = after; jobs = jobs_given w.jobs die told }) s step (event.Take die)
        (output.Take told) (refl, refl) tt (λ t h. h) went in (
          next.0,
          next.1,
          subst (λ (ds : List DieState). Fits (record w {
            core = after;
            dies = ds;
            jobs = slice_set w.jobs l.die
                (job_given l.job told);
          }) next.0)
              (sym (same_dies w l a))
              (subst (λ (js : List (Option Job)). Fits (record w { core = after; jobs = js }) next.0) jobs next.2),
        );
  }

  -- Replies

  shows_reply : (bytes : List ℕ) (o : Output) → IsReplyTold (Some bytes) o → (m : Message) → bytes ≡ spelling m →
      IsShown (OfReply (Some m)) o
  shows_reply bytes (output.Reply (Some told)) h m is = h ∙ is
  shows_reply bytes (output.Reply None) h m is = absurd h
  shows_reply bytes o h m is = absurd h

  reply_leads : (w : WorldState) (s : State) (after : DeviceCore) (due : Bool) (bytes : List ℕ) (o : Output) →
      IsReplyTold (Some bytes) o → Fits w s → (due ≡ true → IsReplied s bytes after) →
      (due ≡ false → IsAnswered s Reply (OfReply None) after) →
      (t : State) × Follows s (made.Reply (shown due bytes)) t × Fits (record w { core = after }) t
  reply_leads w s after true bytes o told fits replied silent =
      follows_went (record w { core = after }) s (made.Reply (Some bytes)) event.Reply o told tt (λ t h. h)
      (replied_went w after s bytes o (shows_reply bytes o told) fits (replied refl))
  reply_leads w s after false bytes o told fits replied silent =
      follows_went (record w { core = after }) s (made.Reply None) event.Reply (output.Reply None) tt tt (λ t h. h)
      (silent_went w after s fits (silent refl))

  pub reply_meets : (before after : DeviceCore) (due : Bool) (bytes : List ℕ) (o : Output) (lane : Option (LaneView D))
      → IsReplyTold (Some bytes) o → lane ≡ None →
      ((s : State) → Describes before s → due ≡ true → IsReplied s bytes after) →
      ((s : State) → Describes before s → due ≡ false → IsAnswered s Reply (OfReply None) after) →
      Meets state before (made.Reply (shown due bytes)) after lane None
  reply_meets before after due bytes o lane told none replied silent =
      plain before after (made.Reply (shown due bytes)) lane none
      (λ w s fits describes is.
      reply_leads w s after due bytes o told fits (replied s describes) (silent s describes))
