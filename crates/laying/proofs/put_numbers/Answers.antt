use Rattle.std.proofs.Common.{◌≡◌, refl, ap, List, [], ◌++◌, ℕ, suc, ◌+◌, ◌-◌, ◌<◌, ◌≤◌, length, get_or, take, drop, arith, length-drop, length-take-le, drop-cons, drop_of_length-le}
use Rattle.encoding.specs.Encode.{encode_two, encode_all}
use Rattle.writing.specs.FieldEnds.{numbers_long}
use Rattle.laying.specs.Laying.{Left, less_left, none_left, room_left, put_as}
use Rattle.laying.proofs.put_numbers.Goals as goal
use Rattle.laying.proofs.put_numbers.Goals.{In-loop-number}

bytes_step : (numbers : List ℕ) (i : ℕ) → i < length numbers → encode_all encode_two (drop i numbers) ≡ encode_two (get_or numbers i 0) ++ encode_all encode_two (drop (i + 1) numbers)
unfolding encode_all
bytes_step numbers i h = let j : suc i ≡ i + 1 = omega arith in rw (drop-cons numbers i 0 h, ← j) refl

bytes_end : (numbers : List ℕ) (i : ℕ) → length numbers ≤ i → encode_all encode_two (drop i numbers) ≡ []
unfolding encode_all
bytes_end numbers i h = rw (drop_of_length-le numbers h) refl

-- in a turn: this number, and what comes after it
module _ (c : In-loop-number) where
  abbrev numbers : List ℕ
  numbers = take (c.args.start + c.args.count - c.args.start) (drop c.args.start c.args.numbers.now)

  abbrev this : List ℕ
  this = encode_two (get_or numbers c.loop-number.number-index 0)

  abbrev after : List ℕ
  after = encode_all encode_two (drop (c.loop-number.number-index + 1) numbers)

  this_left : Left (encode_all encode_two numbers) c.args.from c.args.out.now (this ++ after) c.loop-number.at c.loop-number.out
  this_left = rw (← (bytes_step numbers c.loop-number.number-index c.loop-number-test.true)) c.loop-number.invariant

  room : c.loop-number.at + 2 ≤ length c.loop-number.out
  room =
      let long : length numbers ≡ c.args.start + c.args.count - c.args.start =
      length-take-le (c.args.start + c.args.count - c.args.start) (drop c.args.start c.args.numbers.now) (omega (arith, c.requires, length-drop c.args.start c.args.numbers.now)) in
      room_left this after this_left (omega (arith, c.requires, numbers_long numbers))

pub put_two-requires : goal.put_two-requires
put_two-requires c = room (goal.at.put_two-requires c).In-loop-number

pub overflow_add-at : goal.overflow_add-at
overflow_add-at c = omega (arith, room (goal.at.overflow_add-at c).In-loop-number, c.loop-number.invariant.long)

pub loop-number-preserved : goal.loop-number-preserved
loop-number-preserved c =
    let t = (goal.at.loop-number-preserved c).In-loop-number in
    less_left (this t) (after t) (this_left t) (record { place = refl; stored = c.put_two.ensures })

pub returns : goal.returns
returns c =
    let all : c.args.start + c.args.count - c.args.start ≡ c.args.count = omega arith in
    put_as (ap (λ (n : ℕ). encode_all encode_two (take n (drop c.args.start c.args.numbers.now))) all)
    (none_left (bytes_end _ c.loop-number.number-index c.loop-number-test.false) c.loop-number.invariant)
