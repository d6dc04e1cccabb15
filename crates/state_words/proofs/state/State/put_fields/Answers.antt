use Rattle.state_words.proofs.state.State.put_fields.Goals as goal

pub put_words-requires : goal.put_words-requires
put_words-requires c = rw c.in-Sampler.is at c.requires

pub returns-in-Sampler : goal.returns-in-Sampler
returns-in-Sampler c = rw c.in-Sampler.is c.put_words.ensures

pub put_words-requires-in-SetLayout : goal.put_words-requires-in-SetLayout
put_words-requires-in-SetLayout c = rw c.in-SetLayout.is at c.requires

pub returns-in-SetLayout : goal.returns-in-SetLayout
returns-in-SetLayout c = rw c.in-SetLayout.is c.put_words-in-SetLayout.ensures

pub put_words-requires-in-PipelineLayout : goal.put_words-requires-in-PipelineLayout
put_words-requires-in-PipelineLayout c = rw c.in-PipelineLayout.is at c.requires

pub returns-in-PipelineLayout : goal.returns-in-PipelineLayout
returns-in-PipelineLayout c = rw c.in-PipelineLayout.is c.put_words-in-PipelineLayout.ensures

pub put_words-requires-in-ShaderModule : goal.put_words-requires-in-ShaderModule
put_words-requires-in-ShaderModule c = rw c.in-ShaderModule.is at c.requires

pub returns-in-ShaderModule : goal.returns-in-ShaderModule
returns-in-ShaderModule c = rw c.in-ShaderModule.is c.put_words-in-ShaderModule.ensures

pub put_words-requires-in-RenderPass : goal.put_words-requires-in-RenderPass
put_words-requires-in-RenderPass c = rw c.in-RenderPass.is at c.requires

pub returns-in-RenderPass : goal.returns-in-RenderPass
returns-in-RenderPass c = rw c.in-RenderPass.is c.put_words-in-RenderPass.ensures

pub put_words-requires-in-Graphics : goal.put_words-requires-in-Graphics
put_words-requires-in-Graphics c = rw c.in-Graphics.is at c.requires

pub returns-in-Graphics : goal.returns-in-Graphics
returns-in-Graphics c = rw c.in-Graphics.is c.put_words-in-Graphics.ensures

pub put_words-requires-in-Compute : goal.put_words-requires-in-Compute
put_words-requires-in-Compute c = rw c.in-Compute.is at c.requires

pub returns-in-Compute : goal.returns-in-Compute
returns-in-Compute c = rw c.in-Compute.is c.put_words-in-Compute.ensures
