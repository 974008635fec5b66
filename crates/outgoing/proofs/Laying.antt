-- A record for each field of a tray, put one after the other: what holds while they are put.
-- Assumes nothing.
use mathlib.Core.Path.{◌≡◌, refl, sym, ap, subst, ◌∙◌}
use mathlib.Core.List.{List, [], ◌∷◌, ◌++◌, map, append-nil, append_assoc}
use Prim.Native.Nat.{ℕ, ◌+◌, ◌-◌, ◌*◌, ◌<◌, ◌≤◌}
use native.Mathlib.Omega.{arith}
use borrow.Rule.Slice.PartMut.{mid_of, put_mid}
use lib.ListN.{length, length-append}
use Rattle.wire.specs.Bytes.{number_at, part_at}
use Rattle.wire.specs.Over.{Put, Tried}
use Rattle.wire.proofs.Over.{put_as, try_then}
use Rattle.walk.specs.Message.{flat}
use Rattle.plan.specs.Tray.{fields, fields_in, bytes_in}
use Rattle.plan.proofs.Standing.{bytes_append, same_bodies, Standing, standing_start, Next, standing_end, standing_within, standing_on}
use Rattle.messages.specs.Messages.{record_of, short_record}
use Rattle.messages.proofs.Putting.{put_none, put_long, tried_as, short_tried}

-- a body that is not too long, told by another name
pub body_tried : {o o' : List ℕ} {r : ℕ} (word : ℕ) (x y : List ℕ) (n : ℕ) → x ≡ y → length y ≡ n → n ≤ 65535
    → Tried (length (short_record word x)) (short_record word x) o r o' → Tried (4 + n) (record_of word y) o r o'
body_tried word x y n e l h p = tried_as (short_tried word x n (ap length e ∙ l) h p) refl (ap (record_of word) e)

records_snoc : (word : ℕ) (l : List (List ℕ)) (b : List ℕ) → flat (map (record_of word) (l ++ (b ∷ []))) ≡ flat (map (record_of word) l) ++ record_of word b
records_snoc word [] b = append-nil (record_of word b)
records_snoc word (x ∷ l) b = ap (λ (r : List ℕ). record_of word x ++ r) (records_snoc word l b) ∙ sym (append_assoc (record_of word x) (flat (map (record_of word) l)) (record_of word b))

-- l is what the tray holds, and the records of those passed stand in the output
pub record Laying (word : ℕ) (tray : List ℕ) (used : ℕ) (o₀ o : List ℕ) (at to : ℕ) : Type 0 where
  pub tag : ℕ
  pub held : List (List ℕ)
  pub whole : fields_in tag used tray ≡ fields held
  pub room : 4 * length held + bytes_in held ≤ length o₀
  pub done : List (List ℕ)
  pub standing : Standing tag used tray held at done
  pub put : Put (4 * length done + bytes_in done) (flat (map (record_of word) done)) o₀ to o

abbrev pub Lays : List ℕ → ℕ → List ℕ → Type 0
Lays tray used o = (tag : ℕ) × (l : List (List ℕ)) × (fields_in tag used tray ≡ fields l) × (4 * length l + bytes_in l ≤ length o)

pub laying_start : (word : ℕ) (tray : List ℕ) (used : ℕ) (o : List ℕ) → Lays tray used o → Laying word tray used o o 0 0
laying_start word tray used o h = record {
  tag = h.0;
  held = h.1;
  whole = h.2;
  room = h.3;
  done = [];
  standing = standing_start h.0 used tray h.1 h.2;
  put = put_none o;
}

module _ (word : ℕ) (tray : List ℕ) (used : ℕ) (o₀ o : List ℕ) (at to : ℕ) (g : Laying word tray used o₀ o at to) where
  done_room : 4 * length g.done + bytes_in g.done ≤ length o₀
  done_room =
      omega (
        arith,
        g.room,
        ap length g.standing.split,
        ap bytes_in g.standing.split,
        length-append g.done g.standing.more,
        bytes_append g.done g.standing.more,
      )

  pub laying_end : used ≤ at → (tag : ℕ) (l : List (List ℕ)) → fields_in tag used tray ≡ fields l
      → Put (4 * length l + bytes_in l) (flat (map (record_of word) l)) o₀ to o
  laying_end h tag l e =
      let d : g.done ≡ l = standing_end g.tag used tray g.held at g.done g.standing h ∙ same_bodies g.tag tag used tray g.held l g.whole e in
      subst (λ (x : List (List ℕ)). Put (4 * length x + bytes_in x) (flat (map (record_of word) x)) o₀ to o) d g.put

  pub laying_long : length o ≡ length o₀
  laying_long = put_long g.put done_room

  pub laying_place : to ≤ length o
  laying_place = omega (arith, laying_long, g.put.count, done_room)

  pub laying_within : to ≤ length o₀
  laying_within = omega (arith, g.put.count, done_room)

  module _ (more : at < used) (n : ℕ) (read : n ≡ number_at tray (at + 1)) where
    field : Next g.tag used tray g.held at g.done n
    field = standing_on g.tag used tray g.held at g.done g.standing more n read

    abbrev body : List ℕ
    body = part_at tray (at + 3) n

    need : (4 * length g.done + bytes_in g.done) + (4 + n) ≤ length o₀
    need =
        omega (
          arith,
          g.room,
          ap length field.split,
          ap bytes_in field.split,
          length-append g.done (body ∷ field.to_come),
          bytes_append g.done (body ∷ field.to_come),
          field.body_length,
        )

    pub laying_inside : at + 3 + n ≤ length tray
    laying_inside = omega (arith, read, standing_within g.tag used tray g.held at g.done g.standing more, g.standing.fits)

    pub laying_onward : at < at + 3 + n
    laying_onward = omega arith

    pub laying_body : length body ≡ n
    laying_body = field.body_length

    pub laying_on : (r : ℕ) (o₂ : List ℕ) → Tried (4 + n) (record_of word body) (mid_of to (length o - to) o) r o₂
        → Laying word tray used o₀ (put_mid to (length o - to) o o₂) (at + 3 + n) (to + r)
    laying_on r o₂ p = record {
      tag = g.tag;
      held = g.held;
      whole = g.whole;
      room = g.room;
      done = g.done ++ (body ∷ []);
      standing = field.next;
      put = put_as (try_then g.put p need)
          (omega (arith, length-append g.done (body ∷ []), bytes_append g.done (body ∷ []), field.body_length))
          (sym (records_snoc word g.done body));
    }
