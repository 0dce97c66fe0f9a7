-- What a query is answered is right, and a settings page is put in a slot that was free.
use Rattle.device.proofs.Common.{AreClaimed, AreClaimedBy, Bool, Claim, Claims, Core, DeviceCore, HasPut, HasPutSetting}
use Rattle.device.proofs.Common.{IsBare, IsLayerWith, List, Numbers, Plain, Query, State, Translation, Volatile, [], ap}
use Rattle.device.proofs.Common.{cond, eqb-true, false, free_slots, key_group, moved, nat_le, next_number, numbers_of}
use Rattle.device.proofs.Common.{plain_now, refl, subst, sym, true, with_claimed, ℕ, ◌&&◌, ◌==◌, ◌∙◌, ◌≡◌}
use Rattle.std.proofs.Common.{not}
use Rattle.std.specs.Prelude.{replicate}
use Rattle.ufs_spec.specs.Plain.{zero_block}
use Rattle.ufs_spec.specs.Queries.{query_code}
use Rattle.ufs_spec.specs.QueryAnswers.{may_set}
use Rattle.ufs_spec.specs.Refusals.{mended}
use Rattle.descriptors.specs.Answers.{Says, code_of, is_setting, succeeds}
use Rattle.descriptors.specs.Asks.{HasSettings, query_of}
use Rattle.descriptors.specs.declared.answers.QueryAnswer.{QueryAnswer}
use Rattle.descriptors.specs.declared.queries.QueryRequest.{QueryRequest}
use Rattle.descriptors.specs.declared.queries.QuerySettings.{QuerySettings}
use Rattle.ftl_core.specs.Public.{Describes}
use Rattle.device.specs.Queries.{IsAnswerTo, settings_found, with_slot}
use Rattle.device.proofs.open_tasks.KeptByTag.{claimed_own}

-- The answer

-- what is answered over what the device keeps is the answer in the state
pub answer_is : (s : State) (d : DeviceCore) (n : Numbers) (settings : QuerySettings) (may : Bool) (r : QueryRequest)
    (q : Query) (x : QueryAnswer) → IsBare s d → n ≡ numbers_of s → settings ≡ settings_found (mended s) d →
    may ≡ may_set s →
    query_of r ≡ q →
    ((p : Plain) → HasSettings settings p → code_of x ≡ query_code n p may (query_of r)) →
    ((p : Plain) → HasSettings settings p →
    succeeds x ≡ (query_code n p may (query_of r) == 0x00) && not (r.asked.opcode == 0)) →
    ((p : Plain) → HasSettings settings p → Says p n settings.is_mended settings.volatile (query_of r) x) →
    (is_setting x ≡ true → may ≡ true) → IsAnswerTo s q x
answer_is s d n settings may r q x bare n_is found may_is q_is code succeeding says only = record {
  code = code (plain_now s) has ∙ (λ i. query_code (n_is i) (plain_now s) (may_is i) (q_is i));
  succeeds_is =
      succeeding (plain_now s) has
      ∙ (λ i. (query_code (n_is i) (plain_now s) (may_is i) (q_is i) == 0x00) && not ((q_is i).asked.opcode == 0));
  says =
      subst (λ (y : Query). Says (plain_now s) (numbers_of s) (mended s) s.volatile y x) q_is
      (subst (λ (m : Numbers). Says (plain_now s) m (mended s) s.volatile (query_of r) x) n_is
      (subst (λ (v : Volatile). Says (plain_now s) n (mended s) v (query_of r) x) bare.volatile_is
      (subst (λ (y : QuerySettings). Says (plain_now s) n y.is_mended y.volatile (query_of r) x) found
      (says (plain_now s) has))));
  may = λ e. sym may_is ∙ only e;
}
  where
    has : HasSettings settings (plain_now s)
    has =
        subst (λ (y : QuerySettings). HasSettings y (plain_now s)) (sym found)
        (record { boot = sym bare.boot_is; permanent = sym bare.permanent_is })

-- The page

-- a tag that had claimed nothing has claimed nothing once its slot is taken
slot_taken : (claims : Claims) (tag : ℕ) (blocks : List (List ℕ)) → claims tag ≡ [] → (other : ℕ) →
    with_claimed (with_claimed claims tag blocks) tag [] other ≡ claims other
slot_taken claims tag blocks none other = by (other == tag) refl
  where
    by : (b : Bool) → (other == tag) ≡ b → cond b [] (cond b blocks (claims other)) ≡ claims other
    by true e = sym (ap claims (eqb-true other tag e) ∙ none)
    by false e = refl

-- a slot is claimed, where one is free, and the page is put into it
pub setting_put : (before middle after : Core) (tag number : ℕ) (page : List ℕ) (found : Bool) →
    ((t : Translation) → Describes before t → found ≡ nat_le 1 (free_slots t)) →
    ((t : Translation) → Describes before t → Describes middle (cond found (moved t (Claim 1)) t)) →
    ((claims : Claims) → AreClaimed before claims → claims tag ≡ [] →
    AreClaimed middle (cond found (with_claimed claims tag (replicate 1 zero_block)) claims)) →
    HasPut middle after tag (key_group page) number → HasPutSetting before after tag page number
setting_put before middle after tag number page found found_is described claimed put = record {
  number_is = λ t h. numbered t found (described t h);
  layer =
      λ t claims h none room allowed.
      (let its = put.layer (with_slot t) (with_claimed claims tag (replicate 1 zero_block)) 1
      (there t claims (found_is t h.0 ∙ room) (described t h.0, claimed claims h.1 none))
      (claimed_own claims tag (replicate 1 zero_block)) allowed in (
        its.0,
        λ reader. subst (AreClaimedBy after reader)
            (slot_taken claims tag (replicate 1 zero_block) none reader) (its.1 reader),
      ));
}
  where
    numbered : (t : Translation) (b : Bool) → Describes middle (cond b (moved t (Claim 1)) t) →
        number ≡ next_number t.ledger
    numbered t true h = put.number_is (moved t (Claim 1)) h
    numbered t false h = put.number_is t h

    there : (t : Translation) (claims : Claims) → found ≡ true →
        IsLayerWith middle (cond found (moved t (Claim 1)) t)
        (cond found (with_claimed claims tag (replicate 1 zero_block)) claims) →
        IsLayerWith middle (with_slot t) (with_claimed claims tag (replicate 1 zero_block))
    there t claims is h =
        subst (λ (b : Bool). IsLayerWith middle (cond b (moved t (Claim 1)) t)
        (cond b (with_claimed claims tag (replicate 1 zero_block)) claims)) is h
