-- Worked sizes over one small file, by hand from WGSL's memory layout section and document 02's request 5.
use Rattle.std.specs.Prelude.{ℕ, ◌/◌, ◌%◌, List, [], ◌∷◌, ◌++◌}
use Rattle.frames.specs.Written.{short}
use Rattle.rule_sizes.specs.declared.Alignment.TheVariants.{Two, Four, Eight, Sixteen}
use Rattle.rule_sizes.specs.declared.SizeFault.TheVariants.{Unmeasured, Misplaced, Huge}
use Rattle.rule_sizes.specs.declared.Measure.{Measure}
use Rattle.rule_sizes.specs.declared.Measure.TheVariants.{Fills, Faulty}

-- a number in four bytes
abbrev pub word : ℕ → List ℕ
word n = n % 256 ∷ n / 256 % 256 ∷ n / 65536 % 256 ∷ n / 16777216 % 256 ∷ []

-- a frame by its family and kind, what it names, bytes 4 and 6, and the numbers in bytes 8 and 12
abbrev pub laid : ℕ → ℕ → ℕ → ℕ → ℕ → ℕ → List ℕ
laid family kind named b4 third last = (family ∷ kind ∷ named ∷ 0 ∷ b4 ∷ 0 ∷ 0 ∷ 0 ∷ []) ++ word third ++ word last

-- an array by its base, count and stride; a struct by its first member, how many it has, and its span; a member by
-- its type and offset
abbrev pub array_frame : ℕ → ℕ → ℕ → List ℕ
array_frame base count stride = laid 1 8 base 0 count stride

abbrev pub struct : ℕ → ℕ → ℕ → List ℕ
struct first count span = laid 1 9 first count 0 span

abbrev pub member_frame : ℕ → ℕ → List ℕ
member_frame ty offset = laid 2 0 ty 0 0 offset

abbrev pub sizes_file : List ℕ
sizes_file =
    -- 0 to 4: f32, vec3<f32>, bool, f16, vec3<f16>
    short 1 1 0 0 2 4 0 0 ++ short 1 2 3 0 2 4 0 0 ++ short 1 1 0 0 3 1 0 0 ++ short 1 1 0 0 2 2 0 0
    ++ short 1 2 3 0 2 2 0 0
    -- 5 to 8: arrays of f32, of 2 to the 32 bytes and of one element less; of vec3, with WGSL's stride and with its
    -- size as stride
    ++ array_frame 0 1073741824 4 ++ array_frame 0 1073741823 4 ++ array_frame 1 2 16 ++ array_frame 1 2 12
    -- 9 and 10: a dynamic array of bool, a pointer to bool
    ++ laid 1 8 2 2 0 4 ++ short 1 6 2 0 0 0 0 0
    -- 11 to 17: f32 after vec3; in its last bytes; a span that is no multiple of 16; one that does not hold the last
    -- member; no member; an end of 2 to the 32; a first offset past 0
    ++ struct 0 2 16 ++ struct 2 2 16 ++ struct 0 2 20 ++ struct 0 2 0 ++ struct 0 0 16 ++ struct 4 1 4294967292
    ++ struct 5 1 32
    -- 18 to 20: the pointer and the huge array, in this order; f16 in the last bytes of vec3<f16>, and after it
    ++ struct 6 2 16 ++ struct 8 2 8 ++ struct 10 2 8
    ++ member_frame 1 0 ++ member_frame 0 12 ++ member_frame 1 0 ++ member_frame 0 8 ++ member_frame 0 4294967292
    ++ member_frame 1 16 ++ member_frame 10 0
    ++ member_frame 5 4
    ++ member_frame 4 0 ++ member_frame 3 4 ++ member_frame 4 0 ++ member_frame 3 6

-- what each of its types fills
abbrev pub wanted_measures : List Measure
wanted_measures =
    Fills Four 4 ∷ Fills Sixteen 12 ∷ Faulty Unmeasured (record { 0 = 2 }) ∷ Fills Two 2 ∷ Fills Eight 6
    ∷ Faulty Huge (record { 0 = 5 }) ∷ Fills Four 4294967292 ∷ Fills Sixteen 32 ∷ Faulty Misplaced (record { 0 = 8 })
    ∷ Faulty Unmeasured (record { 0 = 9 }) ∷ Faulty Unmeasured (record { 0 = 10 })
    ∷ Fills Sixteen 16 ∷ Faulty Misplaced (record { 0 = 12 }) ∷ Faulty Misplaced (record { 0 = 13 }) ∷ Faulty Misplaced
    (record { 0 = 14 })
    ∷ Faulty Unmeasured (record { 0 = 15 }) ∷ Faulty Misplaced (record { 0 = 16 }) ∷ Fills Sixteen 32
    ∷ Faulty Huge (record { 0 = 5 }) ∷ Faulty Misplaced (record { 0 = 19 }) ∷ Fills Eight 8 ∷ []
