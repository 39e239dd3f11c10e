-- Events that are written one after another.
use Rattle.std.specs.Prelude.{Result, Ok, Err, OnOk}
use Rattle.std.proofs.Common.{◌≡◌, ℕ, ◌+◌, List, [], ◌∷◌, ◌++◌, length, map, take, refl, ap, sym, ◌∙◌, subst, arith, append_assoc}
use Rattle.std.proofs.lemmas.List.{append-nil, length-append, length-map, map-append}
use Rattle.c_room.specs.declared.room.EventRoom.{EventRoom}
use Rattle.c_room.specs.Written.{Writing, all_bytes, bytes_at, rows_from, Wrote, HasTaken, HasFilled}

module _ {At T : Type 0} (w : Writing At T) where
  pub bytes_append : (h k : List T) → all_bytes w (h ++ k) ≡ all_bytes w h ++ all_bytes w k
  unfolding all_bytes
  bytes_append [] k = refl
  bytes_append (t ∷ h) k = ap (λ bs. w.bytes t ++ bs) (bytes_append h k) ∙ sym (append_assoc (w.bytes t) (all_bytes w h) (all_bytes w k))

  bytes_at_append : (h k : List At) → bytes_at w (h ++ k) ≡ bytes_at w h ++ bytes_at w k
  bytes_at_append h k = ap (all_bytes w) (map-append w.plain h k) ∙ bytes_append (map w.plain h) (map w.plain k)

  rows_append : (o : ℕ) (h k : List At) → rows_from w o (h ++ k) ≡ rows_from w o h ++ rows_from w (o + length (bytes_at w h)) k
  unfolding all_bytes rows_from
  rows_append o [] k = ap (λ n. rows_from w n k) (omega arith)
  rows_append o (t ∷ h) k =
      let bs = w.bytes (w.plain t) in
      let n = length bs in
      ap (λ rows. w.row o t ∷ rows) (rows_append (o + n) h k
      ∙ ap (λ m. rows_from w (o + n) h ++ rows_from w m k) (omega (arith, length-append bs (bytes_at w h))))

  -- an event has one record
  rows_many : (o : ℕ) (events : List At) → length (rows_from w o events) ≡ length events
  unfolding rows_from
  rows_many o [] = refl
  rows_many o (t ∷ ts) = let e = rows_many (o + length (w.bytes (w.plain t))) ts in omega (arith, e)

  pub taken_none : (x : EventRoom) → HasTaken w x x []
  unfolding all_bytes rows_from
  taken_none x = record {
    same_records = refl;
    same_bytes = refl;
    records_long = refl;
    bytes_long = refl;
    rows_are = sym (append-nil (take x.count x.records.now));
    bytes_are = sym (append-nil (take x.used x.bytes.now));
    count_is = omega arith;
    used_is = omega arith;
  }

  pub taken_both : (x y z : EventRoom) (h k : List At) → HasTaken w x y h → HasTaken w y z k → HasTaken w x z (h ++ k)
  taken_both x y z h k p q =
      let rs = take x.count x.records.now in
      let bs = take x.used x.bytes.now in record {
        same_records = q.same_records ∙ p.same_records;
        same_bytes = q.same_bytes ∙ p.same_bytes;
        records_long = q.records_long ∙ p.records_long;
        bytes_long = q.bytes_long ∙ p.bytes_long;
        rows_are = q.rows_are ∙ ap (λ rows. rows ++ rows_from w y.used k) p.rows_are ∙ append_assoc rs (rows_from w x.used h) (rows_from w y.used k)
            ∙ ap (λ n. rs ++ (rows_from w x.used h ++ rows_from w n k)) p.used_is ∙ ap (λ rows. rs ++ rows) (sym (rows_append x.used h k));
        bytes_are = q.bytes_are ∙ ap (λ bytes. bytes ++ bytes_at w k) p.bytes_are ∙ append_assoc bs (bytes_at w h) (bytes_at w k) ∙ ap (λ bytes. bs ++ bytes) (sym (bytes_at_append h k));
        count_is = q.count_is ∙ ap (λ n. n + length (rows_from w y.used k)) p.count_is
            ∙ omega (arith, rows_many x.used h, rows_many y.used k, rows_many x.used (h ++ k), length-append h k);
        used_is = q.used_is ∙ ap (λ n. n + length (bytes_at w k)) p.used_is ∙ omega (arith, length-append (bytes_at w h) (bytes_at w k), ap length (bytes_at_append h k));
      }

  -- one event
  pub taken_one : (x y : EventRoom) (t : At) → Wrote x y (w.row x.used t ∷ []) (w.bytes (w.plain t)) → HasTaken w x y (t ∷ [])
  unfolding all_bytes rows_from
  taken_one x y t wrote =
      let e = append-nil (w.bytes (w.plain t)) in record {
        same_records = wrote.same_records;
        same_bytes = wrote.same_bytes;
        records_long = wrote.records_long;
        bytes_long = wrote.bytes_long;
        rows_are = wrote.rows_are;
        bytes_are = wrote.bytes_are ∙ ap (λ bs. take x.used x.bytes.now ++ bs) (sym e);
        count_is = wrote.count_is;
        used_is = wrote.used_is ∙ ap (λ bs. x.used + length bs) (sym e);
      }

  -- the room that is taken
  pub filled_none : (x : EventRoom) → HasFilled w x x []
  unfolding all_bytes
  filled_none x = record { records_long = refl; bytes_long = refl; count_is = omega arith; used_is = omega arith }

  pub filled_both : (x y z : EventRoom) (h k : List T) → HasFilled w x y h → HasFilled w y z k → HasFilled w x z (h ++ k)
  filled_both x y z h k p q = record {
    records_long = q.records_long ∙ p.records_long;
    bytes_long = q.bytes_long ∙ p.bytes_long;
    count_is = omega (arith, p.count_is, q.count_is, length-append h k);
    used_is = omega (arith, p.used_is, q.used_is, ap length (bytes_append h k), length-append (all_bytes w h) (all_bytes w k));
  }

  pub filled_by : (x y : EventRoom) (events : List At) → HasTaken w x y events → HasFilled w x y (map w.plain events)
  filled_by x y events taken = record {
    records_long = taken.records_long;
    bytes_long = taken.bytes_long;
    count_is = omega (arith, taken.count_is, rows_many x.used events, length-map events w.plain);
    used_is = taken.used_is;
  }

  -- an event with no bytes, where it was written
  pub taken_end : {R E : Type 0} (r : Result R E) (x y : EventRoom) (t : At) → w.bytes (w.plain t) ≡ [] → OnOk r (Wrote x y (w.row x.used t ∷ []) []) → OnOk r (HasTaken w x y (t ∷ []))
  taken_end (Ok v) x y t none wrote = taken_one x y t (subst (λ bs. Wrote x y (w.row x.used t ∷ []) bs) (sym none) wrote)
  taken_end (Err e) x y t none wrote = tt

  pub filled_end : {R E : Type 0} (r : Result R E) (x y : EventRoom) (t : At) → OnOk r (HasTaken w x y (t ∷ [])) → OnOk r (HasFilled w x y (w.plain t ∷ []))
  filled_end (Ok v) x y t taken = filled_by x y (t ∷ []) taken
  filled_end (Err e) x y t taken = tt

  -- as many events as records
  pub written_count : (x y : EventRoom) (events : List At) → HasTaken w x y events → x.count ≡ 0 → y.count ≡ length events
  written_count x y events taken e = omega (arith, taken.count_is, rows_many x.used events, e)

  pub written_used : (x y : EventRoom) (events : List At) → HasTaken w x y events → x.used ≡ 0 → y.used ≡ length (bytes_at w events)
  written_used x y events taken e = omega (arith, taken.used_is, e)
