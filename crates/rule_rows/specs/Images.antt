-- ImageSample, ImageLoad and ImageQuery, in the source's order (document 01, "A row's type"; document 02, request 1).
-- Refusal: 16.
use Rattle.std.specs.Prelude.{Bool, true, false}
use Rattle.ir.specs.declared.RowNumber.{RowNumber}
use Rattle.ir.specs.declared.VectorSize.TheVariants as Vs
use Rattle.ir.specs.declared.ScalarKind.{ScalarKind}
use Rattle.ir.specs.declared.Scalar.{Scalar}
use Rattle.ir.specs.declared.Width.TheVariants as Wd
use Rattle.ir.specs.declared.ImageDimension.{ImageDimension}
use Rattle.ir.specs.declared.ImageDimension.TheVariants as Id
use Rattle.ir.specs.declared.ImageClass.{ImageClass}
use Rattle.ir.specs.declared.ImageClass.TheVariants as Ic
use Rattle.ir.specs.declared.ImageQuery.{ImageQuery}
use Rattle.ir.specs.declared.ImageQuery.TheVariants as Iq
use Rattle.ir.specs.declared.TypeInner.{TypeInner}
use Rattle.ir.specs.declared.TypeInner.TheVariants as Ti
use Rattle.ir.specs.Scalars.{U32, F32}
use Rattle.ir.specs.Formats.{storage_scalar}
use Rattle.answers.specs.declared.Refusal.TheVariants.{InvalidImage}
use Rattle.rule.specs.Answers.{value, Typed, given, refused, row}
use Rattle.rule.specs.Things.{texels}
use Rattle.rule.specs.Rule.{Rule, done, come}
use Rattle.rule_rows.specs.Selectors.{if_image}
use Rattle.rule_rows.specs.Steps.{operand, look, by_type}

-- the scalar of a sampled kind: its width is 4
abbrev pub sampled_scalar : ScalarKind → Scalar
sampled_scalar k = record { kind = k; width = Wd.Four }

-- IMAGESAMPLE with gather. WGSL: "Texture Built-in Functions", textureGather.

-- of the sampled kind, otherwise Float
abbrev pub gathered_scalar : ImageClass → Scalar
gathered_scalar (Ic.Sampled k m) = sampled_scalar k
gathered_scalar (Ic.Depth m) = F32
gathered_scalar Ic.External = F32
gathered_scalar (Ic.Storage f a) = F32

-- four components, whatever the image's class; every other type is number 16
abbrev pub gathered_of : RowNumber → TypeInner → Typed
gathered_of image t = if_image t (λ d c. given (value (Ti.Vector Vs.Quad (gathered_scalar c))))
    (refused (InvalidImage image))

-- reads the image and looks into its type
abbrev pub gathered : RowNumber → RowNumber → Rule Typed
gathered here image = by_type here image (gathered_of image)

-- IMAGESAMPLE without gather, and IMAGELOAD. WGSL: "Texture Built-in Functions", textureSample and textureLoad.

-- by the class: a scalar of a depth image, else four components; of a storage image those of its format's scalar
abbrev pub sampled_of : ImageClass → TypeInner
sampled_of (Ic.Depth m) = Ti.Scalar F32
sampled_of (Ic.Sampled k m) = Ti.Vector Vs.Quad (sampled_scalar k)
sampled_of (Ic.Storage f a) = Ti.Vector Vs.Quad (storage_scalar f)
sampled_of Ic.External = Ti.Vector Vs.Quad F32

-- the class is come to once the type is seen to be an Image; every other type is number 16
abbrev pub sampled_from : RowNumber → RowNumber → TypeInner → Rule Typed
sampled_from here image t =
    if_image t (λ d c. come (row here) (texels c) (λ s. done (given (value (sampled_of s)))))
    (done (refused (InvalidImage image)))

-- reads the image, looks into its type and, of an Image, comes to its class
abbrev pub sampled : RowNumber → RowNumber → Rule Typed
sampled here image = operand image (λ a. look here a (λ x. sampled_from here image x.inner))

-- a sample, by whether it gathers
abbrev pub image_sample : RowNumber → RowNumber → Bool → Rule Typed
image_sample here image true = gathered here image
image_sample here image false = sampled here image

-- a load is typed as a sample without gather
abbrev pub image_load : RowNumber → RowNumber → Rule Typed
image_load here image = sampled here image

-- IMAGEQUERY. WGSL: "Texture Built-in Functions", textureDimensions, textureNumLevels, textureNumLayers and
-- textureNumSamples.

-- an image's size, by its dimension
abbrev pub size_of : ImageDimension → TypeInner
size_of Id.D1 = Ti.Scalar U32
size_of Id.D2 = Ti.Vector Vs.Bi U32
size_of Id.Cube = Ti.Vector Vs.Bi U32
size_of Id.D3 = Ti.Vector Vs.Tri U32

-- an image's size; every other type is number 16
abbrev pub image_size_of : RowNumber → TypeInner → Typed
image_size_of image t = if_image t (λ d c. given (value (size_of d))) (refused (InvalidImage image))

-- a size reads the image and looks into its type; the number of levels, layers or samples reads nothing
abbrev pub image_query : RowNumber → RowNumber → ImageQuery → Rule Typed
image_query here image Iq.Size = by_type here image (image_size_of image)
image_query here image Iq.NumLevels = done (given (value (Ti.Scalar U32)))
image_query here image Iq.NumLayers = done (given (value (Ti.Scalar U32)))
image_query here image Iq.NumSamples = done (given (value (Ti.Scalar U32)))
