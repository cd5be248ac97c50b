-- The hash and the partitions of keys, against those that Kafka's own tests and clients give. A signed number of 32
-- bits
-- that is negative is written as what it lacks of 2 ^ 32.
use Rattle.kob_router.proofs.Words.{codes, murmur2, partition_of, refl, ◌-◌, ◌^◌, ◌≡◌}

of_nothing : murmur2 (codes "") ≡ 0x106e08d9
of_nothing = refl

of_one_digit : murmur2 (codes "4") ≡ 0x5a4b5ca1
of_one_digit = refl

of_one_word : murmur2 (codes "1234") ≡ 0x9fc97b14
of_one_word = refl

of_three_letters : murmur2 (codes "abc") ≡ 0x1c94221b
of_three_letters = refl

of_three_letters_signed : murmur2 (codes "abc") ≡ 479470107
of_three_letters_signed = refl

of_two_digits : murmur2 (codes "21") ≡ 2 ^ 32 - 973932308
of_two_digits = refl

of_six_letters : murmur2 (codes "foobar") ≡ 2 ^ 32 - 790332482
of_six_letters = refl

of_a_long_text : murmur2 (codes "a-little-bit-long-string") ≡ 2 ^ 32 - 985981536
of_a_long_text = refl

of_a_longer_text : murmur2 (codes "a-little-bit-longer-string") ≡ 2 ^ 32 - 1486304829
of_a_longer_text = refl

of_the_longest_text : murmur2 (codes "lkjh234lh9fiuh90y23oiuhsafujhadof229phr9h19h89h8") ≡ 2 ^ 32 - 58897971
of_the_longest_text = refl

nothing_of_three : partition_of (codes "") 3 ≡ 0
nothing_of_three = refl

digit_of_three : partition_of (codes "4") 3 ≡ 1
digit_of_three = refl

word_of_three : partition_of (codes "1234") 3 ≡ 0
word_of_three = refl

letters_of_three : partition_of (codes "abc") 3 ≡ 0
letters_of_three = refl

nothing_of_four : partition_of (codes "") 4 ≡ 1
nothing_of_four = refl

digit_of_four : partition_of (codes "4") 4 ≡ 1
digit_of_four = refl

word_of_four : partition_of (codes "1234") 4 ≡ 0
word_of_four = refl

letters_of_four : partition_of (codes "abc") 4 ≡ 3
letters_of_four = refl
